-- What the tests of `draw`, in their order, decide of its answer.
-- Assumes nothing.
use Prim.Native.Nat.{ℕ, ◌+◌, ◌<◌, ◌≤◌}
use mathlib.Core.Path.{◌≡◌, refl, sym, ap, ◌∙◌}
use mathlib.Core.Bool.{Bool, true, false, cond, not, ◌||◌}
use mathlib.Core.List.{List, ◌++◌}
use native.Mathlib.Omega.{arith}
use borrow.Author.Tests.{ltb-false, lt-ltb, le-ltb}
use lib.ListN.{length, drop}
use lib.Seq.{sets-eq}
use Rattle.entity.specs.Limits.{limits, graph_need, form_need}
use Rattle.definition.specs.Base.{◌<?◌}
use Rattle.lines.specs.Text.{text}
use Rattle.drawable.specs.Fits.{drawable}
use Rattle.draw.specs.Seen.{seen}
use Rattle.draw.specs.Draws.{code_of, Draws}
use Rattle.lines.specs.Wrote.{Wrote}
use Rattle.drawable.specs.Drawable.{Long}

module _ (graph form buffer : List ℕ) where
  abbrev drawn : List ℕ
  drawn = text (seen graph form)

  -- the code, by the tests: a table is short, the tables can be drawn, the buffer is short
  abbrev by_tests : Bool → Bool → Bool → Bool → ℕ
  by_tests g f d b = cond (g || f) 1 (cond (not d) 16 (cond b 15 0))

  coded : {g f d b : Bool} → length graph <? graph_need limits ≡ g → length form <? form_need limits ≡ f → drawable graph form ≡ d
      → length buffer <? length drawn ≡ b → code_of graph form buffer ≡ by_tests g f d b
  coded {g} {f} {d} p q r s =
      ap (λ (z : Bool). by_tests z (length form <? form_need limits) (drawable graph form) (length buffer <? length drawn)) p
      ∙ ap (λ (z : Bool). by_tests g z (drawable graph form) (length buffer <? length drawn)) q
      ∙ ap (λ (z : Bool). by_tests g f z (length buffer <? length drawn)) r ∙ ap (by_tests g f d) s

  -- code 0 is given only where the buffer has room
  pub room_by_0 : code_of graph form buffer ≡ 0 → length drawn ≤ length buffer
  room_by_0 e = by (length graph <? graph_need limits) refl (length form <? form_need limits) refl (drawable graph form) refl (length buffer <? length drawn) refl
    where
      by : (g : Bool) → length graph <? graph_need limits ≡ g → (f : Bool) → length form <? form_need limits ≡ f → (d : Bool) → drawable graph form ≡ d
          → (b : Bool) → length buffer <? length drawn ≡ b → length drawn ≤ length buffer
      by true p f q d r b s = absurd (omega (arith, sym (coded p q r s) ∙ e))
      by false p true q d r b s = absurd (omega (arith, sym (coded p q r s) ∙ e))
      by false p false q false r b s = absurd (omega (arith, sym (coded p q r s) ∙ e))
      by false p false q true r true s = absurd (omega (arith, sym (coded p q r s) ∙ e))
      by false p false q true r false s = ltb-false (length buffer) (length drawn) s

  pub graph_short : length graph < graph_need limits → Draws graph form buffer buffer 1 0
  graph_short h = record { code_is = sym (coded (lt-ltb _ _ h) refl refl refl); length_is = refl; buffer_is = refl }

  pub form_short : graph_need limits ≤ length graph → length form < form_need limits → Draws graph form buffer buffer 1 0
  form_short g h = record { code_is = sym (coded (le-ltb _ _ g) (lt-ltb _ _ h) refl refl); length_is = refl; buffer_is = refl }

  module _ (long : Long graph form) where
    long_graph : length graph <? graph_need limits ≡ false
    long_graph = le-ltb _ _ long.graph_long

    long_form : length form <? form_need limits ≡ false
    long_form = le-ltb _ _ long.form_long

    pub not_drawable : drawable graph form ≡ false → Draws graph form buffer buffer 16 0
    not_drawable d = record { code_is = sym (coded long_graph long_form d refl); length_is = refl; buffer_is = refl }

    module _ (d : drawable graph form ≡ true) where
      pub code_15 : length buffer < length drawn → code_of graph form buffer ≡ 15
      code_15 h = coded long_graph long_form d (lt-ltb _ _ h)

      pub code_0 : length drawn ≤ length buffer → code_of graph form buffer ≡ 0
      code_0 h = coded long_graph long_form d (le-ltb _ _ h)

      pub no_room : length buffer < length drawn → Draws graph form buffer buffer 15 0
      no_room h = record { code_is = sym (code_15 h); length_is = refl; buffer_is = refl }

      pub room : {after : List ℕ} {n r : ℕ} → n ≡ length drawn → n ≤ length buffer → Wrote buffer 0 drawn after r → Draws graph form buffer after 0 n
      room e h w =
          let fits : 0 + length drawn ≤ length buffer = omega arith in
          let zero : 0 + length drawn ≡ length drawn = omega arith in
          record {
            code_is = sym (code_0 (omega arith));
            length_is = e;
            buffer_is = w.out ∙ sets-eq drawn buffer 0 fits ∙ ap (λ (k : ℕ). drawn ++ drop k buffer) zero;
          }
