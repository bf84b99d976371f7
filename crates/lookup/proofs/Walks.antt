-- One turn of the walk's loop: what the walk from here on says is what the whole walk says, since the marks are the blocks passed; and a turn marks one
-- more of the blocks, so that it ends.
-- Assumes nothing.
use Prim.Native.Nat.{ℕ, suc, ◌-◌, ◌≤◌, ◌<◌}
use mathlib.Core.Path.{◌≡◌, refl, sym, ap, ◌∙◌, subst}
use mathlib.Core.Logic.{◌≢◌, ◌⊎◌, inl, inr}
use mathlib.Core.Bool.{Bool, true, false, not}
use mathlib.Core.Option.{Option, none, some}
use mathlib.Core.List.{List, [], ◌∷◌}
use native.Mathlib.Omega.{arith}
use native.Mathlib.Nat.{le_trans}
use lib.ListN.{length, get_or, set, replicate, get_or-replicate}
use lib.Seq.{get_or-set_same, get_or-set_other}
use Rattle.entity.specs.declared.Block.{Block}
use Rattle.std.specs.Prelude.{Option as OptionOf, Some, None}
use Rattle.entity.specs.declared.Value.{Value}
use Rattle.entity.specs.Limits.{limits}
use Rattle.entity.specs.Options.{value_of, block_of}
use Rattle.definition.specs.Base.{has}
use Rattle.definition.specs.Form.{Graph, Form, def}
use Rattle.definition.specs.Read.{walk, past, single}
use Rattle.definition.specs.Session.{bit}
use Rattle.meaning.proofs.Maps.{same?, eqb_same, eqb_diff}
use Rattle.meaning.proofs.Sums.{sum, sum_most, sum_more, bit_most}
use Rattle.meaning.proofs.Reading.{only_is}
use Rattle.graph.specs.Seen.{Seen}
use Rattle.form.specs.Can.{HasDef}
use Rattle.lookup.specs.declared.Stop.{Stop}
use Rattle.lookup.specs.Walk.{CanWalk, whole_walk, Stops}

single_low : {gl : List ℕ} {g : Graph} → Seen gl g → (b p : ℕ) → single g b ≡ some p → p < g.blocks
single_low {gl} {g} h b p e = h.sound.range b p (rw (only_is (g.sealed b) (g.preds b) p e).1 (inl refl))

-- ---- marks

-- how many blocks below n have no mark
abbrev pub unmarked : List Bool → ℕ → ℕ
unmarked m n = sum (λ d. bit (not (get_or m d false))) n

pub unmarked_falls : (m : List Bool) (b n : ℕ) → b < n → b < length m → get_or m b false ≡ false → unmarked (set m b true) n < unmarked m n
unmarked_falls m b n lb lm free = omega (
  arith,
  sum_more 1 (λ d. bit (not (get_or (set m b true) d false))) (λ d. bit (not (get_or m d false))) b n (λ d. by d (same? d b)) (rw (get_or-set_same m b true false lm, free) (omega arith)) lb,
)
  where
    by : (d : ℕ) → (d ≡ b) ⊎ (d ≢ b) → bit (not (get_or (set m b true) d false)) ≤ bit (not (get_or m d false))
    by d (inl e) = rw (e, get_or-set_same m b true false lm) (omega arith)
    by d (inr n) = rw (get_or-set_other m b d true false n) (omega arith)

-- ---- one step of the definition's walk

module _ (g : Graph) (s : Form) (v n : ℕ) (seen : List ℕ) (b : ℕ) (r : Stop) where
  stops_alone : single g b ≡ none → r.block.0 ≡ b → value_of r.value ≡ none → Stops r (walk (suc n) g s v seen b)
  stops_alone e at nil = subst (λ (o : Option ℕ). Stops r (past (walk n g s v (b ∷ seen)) s v b (has b seen) o)) (sym e) (by (has b seen))
    where
      by : (z : Bool) → Stops r (past (walk n g s v (b ∷ seen)) s v b z none)
      by true = record { block = at; value = nil }
      by false = record { block = at; value = nil }

  stops_again : has b seen ≡ true → r.block.0 ≡ b → value_of r.value ≡ none → Stops r (walk (suc n) g s v seen b)
  stops_again e at nil = rw e (record { block = at; value = nil })

  module _ (p : ℕ) (new : has b seen ≡ false) (one : single g b ≡ some p) where
    stops_found : (x : ℕ) → def s v p ≡ some x → r.block.0 ≡ p → value_of r.value ≡ some x → Stops r (walk (suc n) g s v seen b)
    stops_found x e at is = rw (new, one, e) (record { block = at; value = is })

    stops_later : def s v p ≡ none → Stops r (walk n g s v (b ∷ seen) p) → Stops r (walk (suc n) g s v seen b)
    stops_later e h = rw (new, one, e) (record { block = h.block; value = h.value })

-- ---- the loop

-- what it keeps
pub record Walking (g : Graph) (s : Form) (v b₀ : ℕ) (m : List Bool) (b : ℕ) : Type 0 where
  pub seen : List ℕ
  pub left : ℕ
  pub enough : unmarked m g.blocks ≤ left
  pub marks : (d : ℕ) → d < limits.blocks → get_or m d false ≡ has d seen
  pub low : b < g.blocks
  pub ends : (r : Stop) → Stops r (walk (suc left) g s v seen b) → Stops r (whole_walk g v b₀ s)

module _ (gl fl : List ℕ) (v b₀ : ℕ) where
  abbrev pub Walks : List Bool → ℕ → Type 0
  Walks m b = (g : Graph) (s : Form) → CanWalk gl fl v b₀ g s → Walking g s v b₀ m b

  abbrev Ended : Stop → Type 0
  Ended r = (g : Graph) (s : Form) → CanWalk gl fl v b₀ g s → Stops r (whole_walk g v b₀ s)

module _ {gl fl : List ℕ} {v b₀ : ℕ} where
  pub walk_start : Walks gl fl v b₀ (replicate limits.blocks false) b₀
  walk_start g s h = record {
    seen = [];
    left = g.blocks;
    enough = omega (arith, sum_most 1 (λ d. bit (not (get_or (replicate limits.blocks false) d false))) g.blocks (λ d _. bit_most (not (get_or (replicate limits.blocks false) d false))));
    marks = λ d l. get_or-replicate limits.blocks d false false l;
    low = h.known;
    ends = λ r k. k;
  }

  module _ {m : List Bool} {b : ℕ} (lb : b < limits.blocks) (W : Walks gl fl v b₀ m b) where
    pub stop_alone : {q : OptionOf Block} → q ≡ None → ((g : Graph) → Seen gl g → block_of q ≡ single g b) → (r : Stop) → r.block.0 ≡ b → r.value ≡ None
        → Ended gl fl v b₀ r
    stop_alone e one r at nil g s h = let w = W g s h in w.ends r (stops_alone g s v w.left w.seen b r (sym (one g h.seen) ∙ ap block_of e) at (ap value_of nil))

    pub stop_again : get_or m b false ≡ true → (r : Stop) → r.block.0 ≡ b → r.value ≡ None → Ended gl fl v b₀ r
    stop_again e r at nil g s h = let w = W g s h in w.ends r (stops_again g s v w.left w.seen b r (sym (w.marks b lb) ∙ e) at (ap value_of nil))

    module _ {q : OptionOf Block} {p : Block} (there : q ≡ Some p) (one : (g : Graph) → Seen gl g → block_of q ≡ single g b) where
      module _ {g : Graph} {s : Form} (h : CanWalk gl fl v b₀ g s) where
        to : single g b ≡ some p.0
        to = sym (one g h.seen) ∙ ap block_of there

        low : p.0 < g.blocks
        low = single_low h.seen b p.0 to

        pub step_has : HasDef fl v p.0 s
        step_has = record { cells = h.cells; var = h.var; known = le_trans low h.seen.bounds.few }

      module _ (new : get_or m b false ≡ false) where
        fresh : {g : Graph} {s : Form} (h : CanWalk gl fl v b₀ g s) → has b (W g s h).seen ≡ false
        fresh {g} {s} h = sym ((W g s h).marks b lb) ∙ new

        pub stop_found : {x : OptionOf Value} {y : Value} → x ≡ Some y → ((s : Form) → HasDef fl v p.0 s → value_of x ≡ def s v p.0)
            → (r : Stop) → r.block.0 ≡ p.0 → r.value ≡ Some y → Ended gl fl v b₀ r
        stop_found {y = y} e reads r at is g s h =
            let k = W g s h in
            k.ends r (stops_found g s v k.left k.seen b r p.0 (fresh h) (to h) y.0 (sym (reads s (step_has h)) ∙ ap value_of e) at (ap value_of is))

        pub walk_turn : {x : OptionOf Value} → x ≡ None → ((s : Form) → HasDef fl v p.0 s → value_of x ≡ def s v p.0) → b < length m
            → Walks gl fl v b₀ (set m b true) p.0
        walk_turn z reads lm g s h =
            let k = W g s h in
            let falls = unmarked_falls m b g.blocks k.low lm new in
            let n : suc (k.left - 1) ≡ k.left = omega (arith, falls, k.enough) in
            record {
              seen = b ∷ k.seen;
              left = k.left - 1;
              enough = omega (arith, falls, k.enough);
              marks = λ d l. marked d l (same? d b);
              low = low h;
              ends = λ r e. k.ends r
                  (stops_later g s v k.left k.seen b r p.0 (fresh h) (to h) (sym (reads s (step_has h)) ∙ ap value_of z) (subst (λ (i : ℕ). Stops r (walk i g s v (b ∷ k.seen) p.0)) n e));
            }
          where
            marked : (d : ℕ) → d < limits.blocks → (d ≡ b) ⊎ (d ≢ b) → get_or (set m b true) d false ≡ has d (b ∷ (W g s h).seen)
            marked d l (inl e) = rw (e, eqb_same b) (get_or-set_same m b true false lm)
            marked d l (inr n) = rw (eqb_diff d b n) (get_or-set_other m b d true false n ∙ (W g s h).marks d l)
