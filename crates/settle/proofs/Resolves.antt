-- Resolving over the lent cells is the definition's: the part lent is the list of targets, and a chain has one end.
-- Assumes nothing.
use Prim.Native.Nat.{ℕ, ◌+◌, ◌-◌, ◌<◌}
use mathlib.Core.Path.{◌≡◌, refl, sym, ap, ◌∙◌}
use mathlib.Core.List.{List}
use native.Mathlib.Omega.{arith}
use lib.ListN.{length, get_or, take, drop, length-map, length-take, length-drop}
use lib.Seq.{get_or-take, get_or-drop, ext_get_or}
use Rattle.entity.specs.Limits.{limits, value_room}
use Rattle.definition.specs.Base.{up_from}
use Rattle.definition.specs.Form.{Form}
use Rattle.definition.specs.Read.{resolve}
use Rattle.definition.specs.Resolve.{Ends, here, on, targets}
use Rattle.meaning.proofs.Chains.{up_length, up_at}
use Rattle.alias.proofs.Walks.{end_unique}
use Rattle.layout.specs.declared.Counts.{Counts}
use Rattle.layout.specs.Cells.{base}
use Rattle.layout.specs.Layout.{form_sizes, form_tables}
use Rattle.layout.proofs.Columns.{column_at}
use Rattle.settle.specs.Settle.{CanResolve}

targets_length : (s : Form) → length (targets s) ≡ s.next
targets_length s = length-map (up_from 0 s.next) s.target ∙ up_length 0 s.next

ends_inside : {ts : List ℕ} {x y : ℕ} → Ends ts x y → y < length ts
ends_inside (here l e) = l
ends_inside (on l r) = ends_inside r

module _ (l : List ℕ) (c : Counts) (x : ℕ) (s : Form) (h : CanResolve l c x s) where
  part_is : (n : ℕ) → n ≡ s.next → take n (drop (base form_sizes 2) l) ≡ targets s
  part_is n e = ext_get_or 0 (take n (drop (base form_sizes 2) l)) (targets s) long at
    where
      long : length (take n (drop (base form_sizes 2) l)) ≡ length (targets s)
      long = simp (length-take, length-drop) (omega (arith, targets_length s, h.few, h.shows.cells.long))

      at : (i : ℕ) → i < length (take n (drop (base form_sizes 2) l)) → get_or (take n (drop (base form_sizes 2) l)) i 0 ≡ get_or (targets s) i 0
      at i lt =
          let li : i < s.next = omega (arith, long, targets_length s) in
          let ln : i < n = omega arith in
          get_or-take n (drop (base form_sizes 2) l) i 0 ln ∙ get_or-drop (base form_sizes 2) l i 0
          ∙ column_at form_sizes l (form_tables s) 2 h.shows.cells s.next s.target refl i li h.few ∙ sym (up_at s.target 0 s.next i li ∙ ap s.target (omega arith))

  abbrev part : List ℕ
  part = take (base form_sizes 2 + c.values - base form_sizes 2) (drop (base form_sizes 2) l)

  lent_part : part ≡ targets s
  lent_part = part_is (base form_sizes 2 + c.values - base form_sizes 2) (omega (arith, h.shows.next))

  pub part_ends : (y : ℕ) × Ends part x y
  part_ends = (resolve s x, rw lent_part h.chain)

  pub resolved : {y : ℕ} → Ends part x y → (y < value_room limits) × (y ≡ resolve s x)
  resolved r =
      let y_is = end_unique (rw lent_part at r) h.chain in
      (omega (arith, y_is, ends_inside h.chain, targets_length s, h.few), y_is)
