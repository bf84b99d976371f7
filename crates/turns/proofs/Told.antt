-- What the answers before a call say: the use at a place is read off the kinds, the codes and the numbers; one more answer is written at the next place.
-- Assumes nothing.
use Prim.Native.Nat.{ℕ, zero, suc, ◌<◌, ◌≤◌}
use mathlib.Core.Path.{◌≡◌, refl, sym, ap, ◌∙◌}
use mathlib.Core.Bool.{Bool, true, false, ◌&&◌, cond}
use mathlib.Core.Option.{none, some}
use mathlib.Core.List.{List, [], ◌∷◌, ◌++◌, map, map-append}
use native.Mathlib.Nat.{not-suc-le-zero, le_of_suc-le-suc}
use native.Mathlib.Omega.{arith}
use lib.Dec.{eqb}
use lib.ListN.{length, get_or, set, take, length-append}
use lib.Seq.{get_or-take, take-suc, take-suc-set}
use Rattle.std.specs.Bool.{then_some}
use Rattle.entity.specs.Options.{value_of}
use Rattle.definition.specs.Base.{◌∷ʳ◌}
use Rattle.definition.specs.Session.{Done, answered}
use Rattle.turns.specs.Turns.{Told}

abbrev kind_of : Done → ℕ
kind_of d = d.asked.kind

abbrev code_of : Done → ℕ
code_of d = d.code

abbrev number_of : Done → ℕ
number_of d = d.number

answered_at : (ds : List Done) (k : ℕ) → k < length ds
    → answered ds k ≡ cond (eqb (get_or (map kind_of ds) k 0) 6 && eqb (get_or (map code_of ds) k 0) 0) (some (get_or (map number_of ds) k 0)) none
answered_at [] k l = absurd (not-suc-le-zero l)
answered_at (d ∷ ds) zero l = refl
answered_at (d ∷ ds) (suc k) l = answered_at ds k (le_of_suc-le-suc l)

answered_past : (ds : List Done) (k : ℕ) → length ds ≤ k → answered ds k ≡ none
answered_past [] k l = refl
answered_past (d ∷ ds) zero l = absurd (not-suc-le-zero l)
answered_past (d ∷ ds) (suc k) l = answered_past ds k (le_of_suc-le-suc l)

pub not_yet : {i k : ℕ} (ds : List Done) → i ≡ length ds → i ≤ k → none ≡ answered ds k
not_yet {k = k} ds e l = sym (answered_past ds k (omega (arith, e)))

value_then : (b : Bool) (n : ℕ) → value_of (then_some b (record { 0 = n })) ≡ cond b (some n) none
value_then true n = refl
value_then false n = refl

-- the first cells of a list hold something of each that was done
module _ (f : Done → ℕ) (ds : List Done) (l : List ℕ) (h : take (length ds) l ≡ map f ds) where
  first_at : (k : ℕ) → k < length ds → get_or (map f ds) k 0 ≡ get_or l k 0
  first_at k lt = ap (λ (r : List ℕ). get_or r k 0) (sym h) ∙ get_or-take (length ds) l k 0 lt

  -- one more
  first_more : (l' : List ℕ) (d : Done) → take (suc (length ds)) l' ≡ take (length ds) l ++ f d ∷ [] → take (length (ds ∷ʳ d)) l' ≡ map f (ds ∷ʳ d)
  first_more l' d e =
      let n : length (ds ∷ʳ d) ≡ suc (length ds) = omega (arith, length-append ds (d ∷ [])) in
      ap (λ (i : ℕ). take i l') n ∙ e ∙ ap (λ (r : List ℕ). r ++ f d ∷ []) h ∙ sym (map-append f ds (d ∷ []))

module _ {ks ls ns : List ℕ} {ds : List Done} (h : Told ks ls ns ds) where
  module _ {k : ℕ} (lt : k < length ds) where
    answer : answered ds k ≡ cond (eqb (get_or ks k 0) 6 && eqb (get_or ls k 0) 0) (some (get_or ns k 0)) none
    answer = answered_at ds k lt ∙ rw (first_at kind_of ds ks h.kinds k lt, first_at code_of ds ls h.codes k lt, first_at number_of ds ns h.numbers k lt)

    -- b says whether the call at place k was an accepted use
    pub the_use : (b : Bool) → b ≡ (eqb (get_or ks k 0) 6 && eqb (get_or ls k 0) 0) → value_of (then_some b (record { 0 = get_or ns k 0 })) ≡ answered ds k
    the_use b e = value_then b (get_or ns k 0) ∙ ap (λ (z : Bool). cond z (some (get_or ns k 0)) none) e ∙ sym answer

  pub told_more : {i : ℕ} → i ≡ length ds → i < length ks → i < length ls → i < length ns → (d : Done) → d.asked.kind ≡ get_or ks i 0
      → Told ks (set ls i d.code) (set ns i d.number) (ds ∷ʳ d)
  told_more {i} e lk ll ln d k = record {
    kinds = first_more kind_of ds ks h.kinds ks d (rw (k, e) (take-suc ks (length ds) 0 (rw e at lk)));
    codes = first_more code_of ds ls h.codes (set ls i d.code) d (rw e (take-suc-set ls (length ds) d.code (rw e at ll)));
    numbers = first_more number_of ds ns h.numbers (set ns i d.number) d (rw e (take-suc-set ns (length ds) d.number (rw e at ln)));
  }
