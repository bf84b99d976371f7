-- The promise determines code, length and every byte of the buffer, since each is computed from what was lent.
-- Assumes nothing.
use Rattle.std.specs.Prelude.{if◌then◌else◌}
use Prim.Native.Nat.{ℕ, ◌≤◌}
use mathlib.Core.Path.{◌≡◌, sym, ap, ◌∙◌}
use mathlib.Core.Logic.{inl, inr}
use mathlib.Core.Bool.{Bool}
use mathlib.Core.List.{List, ◌++◌}
use native.Mathlib.Omega.{arith}
use lib.ListN.{length, take, drop}
use lib.Seq.{take-append_seam, drop-append_seam}
use Rattle.meaning.proofs.Maps.{eqb_diff, same?}
use Rattle.lines.specs.Text.{text}
use Rattle.draw.specs.Seen.{seen}
use Rattle.draw.specs.Draws.{length_with, buffer_with, Draws}
use Rattle.draw.proofs.Codes.{room_by_0}

module _ {graph form before after : List ℕ} {code n : ℕ} (h : Draws graph form before after code n) where
  -- any two outcomes that meet the promise are the same
  pub determined : {after' : List ℕ} {code' n' : ℕ} → Draws graph form before after' code' n' → (code ≡ code') × (n ≡ n') × (after ≡ after')
  determined h' =
      let e = h.code_is ∙ sym h'.code_is in (
        e,
        h.length_is ∙ ap (length_with graph form before) e ∙ sym h'.length_is,
        h.buffer_is ∙ ap (buffer_with graph form before) e ∙ sym h'.buffer_is,
      )

  -- a drawing that is refused answers length 0 and leaves the buffer as it was
  pub refused_untouched : (code ≡ 0 → ⊥) → (n ≡ 0) × (after ≡ before)
  refused_untouched refused =
      let e = eqb_diff code 0 refused in
      let t = text (seen graph form) in
      (h.length_is ∙ ap (λ (z : Bool). if z then length t else 0) e, h.buffer_is ∙ ap (λ (z : Bool). if z then t ++ drop (length t) before else before) e)

  -- else the buffer starts with the text, n bytes, and those past it keep what they held
  pub drawn_past : code ≡ 0 → (take n after ≡ text (seen graph form)) × (drop n after ≡ drop n before)
  drawn_past e =
      let t = text (seen graph form) in
      let long : n ≡ length t = h.length_is ∙ ap (length_with graph form before) e in
      let is : after ≡ t ++ drop (length t) before = h.buffer_is ∙ ap (buffer_with graph form before) e in
      (rw (long, is) (take-append_seam t (drop (length t) before)), rw (long, is) (drop-append_seam t (drop (length t) before)))

  -- the text lies in the buffer
  pub within_buffer : n ≤ length before
  within_buffer = elim (same? code 0) [
    | inl e ↦ rw (h.length_is ∙ ap (length_with graph form before) e) (room_by_0 graph form before (sym h.code_is ∙ e))
    | inr refused ↦ omega (arith, (refused_untouched refused).0)
  ]
