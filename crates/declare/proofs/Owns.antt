-- What kinds 15 and 16 come to where each of their checks decides: those before it were passed.
-- Assumes nothing.
use Prim.Native.Nat.{ℕ, suc, ◌<◌, ◌≤◌}
use mathlib.Core.Path.{◌≡◌, refl}
use mathlib.Core.Bool.{Bool, true, false, not, ◌||◌}
use mathlib.Core.List.{List, [], ◌∷◌}
use native.Mathlib.Omega.{arith}
use borrow.Author.Tests.{le-leb, lt-leb, eq-eqb, ne_eqb}
use lib.ListN.{length, get_or}
use Rattle.entity.specs.Limits.{limits}
use Rattle.entity.specs.Types.{type_count}
use Rattle.definition.specs.Base.{◌=?◌, put, put₂, ◌∷ʳ◌}
use Rattle.definition.specs.Form.{Graph, Form, caller, with_makes, with_owns, with_args}
use Rattle.definition.specs.Read.{make, set_params}
use Rattle.meaning.proofs.Maps.{false_true}
use Rattle.definition.specs.Session.{no, ok, no_block, no_branch, declared_anywhere, own_param, give_arg}

-- ---- kind 15

abbrev pub begun : Graph → Form → ℕ → Bool
begun g s b = g.sealed b || not (length (g.preds b) =? 0) || not (length (s.pending b) =? 0)

-- where it has not begun, the block is not sealed and nothing waits there
neither : (a p q : Bool) → a || p || q ≡ false → (a ≡ false) × (q ≡ false)
neither false false q e = (refl, e)
neither false true q e = absurd (false_true e refl)
neither true p q e = absurd (false_true e refl)

nothing : {A : Type 0} (l : List A) → not (length l =? 0) ≡ false → l ≡ []
nothing [] e = refl
nothing (x ∷ l) e = absurd (false_true e (rw (ne_eqb (length (x ∷ l)) 0 (omega arith)) refl))

pub bare : (g : Graph) (s : Form) (b : ℕ) → begun g s b ≡ false → (g.sealed b ≡ false) × (s.pending b ≡ [])
bare g s b e =
    let q = neither (g.sealed b) (not (length (g.preds b) =? 0)) (not (length (s.pending b) =? 0)) e in
    (q.0, nothing (s.pending b) q.1)

module _ (g : Graph) (s : Form) (b ty : ℕ) where
  pub own_no_block : no_block g s b ≡ true → own_param g s b ty ≡ no 6
  own_no_block e = rw e

  module _ (e₁ : no_block g s b ≡ false) where
    pub own_no_type : type_count ≤ ty → own_param g s b ty ≡ no 6
    own_no_type l = rw (e₁, le-leb type_count ty l)

    module _ (e₂ : ty < type_count) where
      pub own_begun : begun g s b ≡ true → own_param g s b ty ≡ no 17
      own_begun e = rw (e₁, lt-leb type_count ty e₂, e)

      module _ (e₃ : begun g s b ≡ false) where
        pub own_full : limits.own_params ≤ s.owns b → own_param g s b ty ≡ no 18
        own_full l = rw (e₁, lt-leb type_count ty e₂, e₃, le-leb limits.own_params (s.owns b) l)

        module _ (e₄ : s.owns b < limits.own_params) where
          pub own_made_full : limits.made ≤ s.makes → own_param g s b ty ≡ no 4
          own_made_full l = rw (e₁, lt-leb type_count ty e₂, e₃, lt-leb limits.own_params (s.owns b) e₄, le-leb limits.made s.makes l)

          pub own_made : s.makes < limits.made → own_param g s b ty
              ≡ ok s.next g (with_owns (set_params b (s.params b ∷ʳ s.next) (make caller ty b (with_makes s (suc s.makes)))) (put b (suc (s.owns b)) s.owns))
          own_made l = rw (e₁, lt-leb type_count ty e₂, e₃, lt-leb limits.own_params (s.owns b) e₄, lt-leb limits.made s.makes l)

-- ---- kind 16

module _ (g : Graph) (s : Form) (p x i : ℕ) where
  -- the destination, and the place of the next argument
  abbrev d : ℕ
  d = get_or (g.dests p) i 0

  abbrev n : ℕ
  n = length (s.args p i)

  pub give_no_branch : no_branch g s p ≡ true → give_arg g s p x i ≡ no 6
  give_no_branch e = rw e

  module _ (e₁ : no_branch g s p ≡ false) where
    pub give_no_value : s.next ≤ x → give_arg g s p x i ≡ no 6
    give_no_value l = rw (e₁, le-leb s.next x l)

    module _ (e₂ : x < s.next) where
      pub give_no_dest : length (g.dests p) ≤ i → give_arg g s p x i ≡ no 6
      give_no_dest l = rw (e₁, lt-leb s.next x e₂, le-leb (length (g.dests p)) i l)

      module _ (e₃ : i < length (g.dests p)) where
        pub give_declared : declared_anywhere g p ≡ true → give_arg g s p x i ≡ no 11
        give_declared e = rw (e₁, lt-leb s.next x e₂, lt-leb (length (g.dests p)) i e₃, e)

        module _ (e₄ : declared_anywhere g p ≡ false) where
          pub give_full : s.owns (get_or (g.dests p) i 0) ≤ length (s.args p i) → give_arg g s p x i ≡ no 18
          give_full l = rw (e₁, lt-leb s.next x e₂, lt-leb (length (g.dests p)) i e₃, e₄, le-leb (s.owns d) n l)

          module _ (e₅ : length (s.args p i) < s.owns (get_or (g.dests p) i 0)) where
            abbrev type : ℕ
            type = (s.info (get_or (s.params d) n 0)).type

            pub give_other_type : ((s.info x).type ≡ (s.info (get_or (s.params (get_or (g.dests p) i 0)) (length (s.args p i)) 0)).type → ⊥)
                → give_arg g s p x i ≡ no 7
            give_other_type q = rw (e₁, lt-leb s.next x e₂, lt-leb (length (g.dests p)) i e₃, e₄, lt-leb (s.owns d) n e₅, ne_eqb (s.info x).type type q)

            pub given : (s.info x).type ≡ (s.info (get_or (s.params (get_or (g.dests p) i 0)) (length (s.args p i)) 0)).type
                → give_arg g s p x i ≡ ok (length (s.args p i)) g (with_args s (put₂ p i (s.args p i ∷ʳ x) s.args))
            given q = rw (e₁, lt-leb s.next x e₂, lt-leb (length (g.dests p)) i e₃, e₄, lt-leb (s.owns d) n e₅, eq-eqb (s.info x).type type q)
