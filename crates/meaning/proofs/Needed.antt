-- Demand 3 needs each of its five suppositions: without any one of them it is false, by the lists of Against.antt, which meet the other four.
-- Assumes nothing.
use Prim.Native.Nat.{ℕ, zero, suc, ◌≤◌}
use mathlib.Core.Path.{◌≡◌, refl, ap, ◌∙◌}
use mathlib.Core.Logic.{◌≢◌, ◌⊎◌, inl, inr}
use mathlib.Core.Bool.{Bool, true, ◌||◌}
use mathlib.Core.List.{List, [], ◌∷◌}
use lib.Dec.{eqb, ltb, ltb→lt}
use lib.ListN.{length, get_or}
use native.Mathlib.Omega.{arith}
use Rattle.definition.specs.Session.{Call, session}
use Rattle.meaning.specs.Path.{Fed}
use Rattle.meaning.specs.Trace.{begin, there?}
use Rattle.meaning.specs.Needed.{SupposedBut, supposed_but?, Demand3But}
use Rattle.meaning.proofs.Against.{null, unset, fresh, found_on, unsealed, unset_parameter, entered, not_made_yet, undeclared, zero_for_a_value}
use Rattle.meaning.proofs.Against.{foreign, made_anew, short, never_brought, waiting, unfed, ungiven}
use Rattle.meaning.proofs.Maps.{same?, eqb_same, eqb_diff, true_T}
use Rattle.meaning.proofs.Demand.{demand_3}
use Rattle.meaning.proofs.Decide.{Decides, turned, both}
use Rattle.meaning.proofs.Suppositions.{all_sealed_decided, none_enters_0_decided, all_declared_decided, own_values_decided, own_args_decided}
use Rattle.meaning.proofs.Trace.{faithful_finds}

-- demand 3 itself: no supposition has number 0
pub all_suffice : Demand3But 0
all_suffice cs S = demand_3 cs (record {
  all_sealed = S.all_sealed (omega arith);
  none_enters_0 = S.none_enters_0 (omega arith);
  all_declared = S.all_declared (omega arith);
  own_values = S.own_values (omega arith);
  own_args = S.own_args (omega arith);
})

-- asked for, unless it is the one left out
unless : {A : Type 0} {b : Bool} (k i : ℕ) → Decides b A → Decides (eqb k i || b) (k ≢ i → A)
unless {A} {b} k i d = record { sound = λ e n. d.sound (rw (eqb_diff k i n) at e); complete = on (same? k i) }
  where
    on : (k ≡ i) ⊎ (k ≢ i) → (k ≢ i → A) → eqb k i || b ≡ true
    on (inl e) h = rw (ap (λ (j : ℕ). eqb j i) e ∙ eqb_same i)
    on (inr n) h = rw (eqb_diff k i n) (d.complete (h n))

pub others_decided : (k : ℕ) (cs : List Call) → Decides (supposed_but? k (session cs)) (SupposedBut k (session cs))
others_decided k cs =
    turned (λ h. record { all_sealed = h.0.0.0.0; none_enters_0 = h.0.0.0.1; all_declared = h.0.0.1; own_values = h.0.1; own_args = h.1 })
    (λ S. ((((S.all_sealed, S.none_enters_0), S.all_declared), S.own_values), S.own_args))
    (both (both (both (both (unless k 1 (all_sealed_decided cs)) (unless k 2 (none_enters_0_decided cs))) (unless k 3 (all_declared_decided cs)))
    (unless k 4 (own_values_decided cs))) (unless k 5 (own_args_decided cs)))

-- a use that finds two different things refutes it
breaks : (k : ℕ) (cs : List Call) (is : List ℕ) (q : ℕ × ℕ) → supposed_but? k (session cs) ≡ true
    → there? ℕ null fresh unset (session cs) is (begin ℕ null fresh unset (session cs)) ≡ true → found_on cs is ≡ q ∷ [] → q.0 ≢ q.1
    → Demand3But k → ⊥
breaks k cs is q four path found differ claim =
    let right = (claim cs ((others_decided k cs).sound four)).0 ℕ null in
    differ (faithful_finds ℕ null fresh unset (session cs) right is path q (rw found (inl refl)))

pub needed : (k : ℕ) → 1 ≤ k → k ≤ 5 → Demand3But k → ⊥
needed zero l h = absurd (omega arith)
needed (suc zero) l h = breaks 1 unsealed [] (1, 0) refl refl unset_parameter (λ e. omega arith)
needed (suc (suc zero)) l h = breaks 2 entered [] (1, 0) refl refl not_made_yet (λ e. omega arith)
needed (suc (suc (suc zero))) l h = breaks 3 undeclared (0 ∷ []) (0, 2) refl refl zero_for_a_value (λ e. omega arith)
needed (suc (suc (suc (suc zero)))) l h = breaks 4 foreign (0 ∷ []) (2, 1) refl refl made_anew (λ e. omega arith)
needed (suc (suc (suc (suc (suc zero))))) l h = breaks 5 short (0 ∷ []) (1, 2) refl refl never_brought (λ e. omega arith)
needed (suc (suc (suc (suc (suc (suc k)))))) l h = absurd (omega arith)

-- a destination with fewer arguments than parameters refutes it
starves : (k : ℕ) (cs : List Call) (p i : ℕ) → supposed_but? k (session cs) ≡ true → ltb i (length ((session cs).graph.dests p)) ≡ true
    → length ((session cs).form.args p i) ≢ length ((session cs).form.params (get_or ((session cs).graph.dests p) i 0))
    → ((ds : List Call) → SupposedBut k (session ds) → Fed (session ds)) → ⊥
starves k cs p i four there differ claim =
    let n = length ((session cs).graph.dests p) in
    differ (claim cs ((others_decided k cs).sound four) p i (ltb→lt i n (true_T (ltb i n) there)))

pub fed_needs_sealed : ((cs : List Call) → SupposedBut 1 (session cs) → Fed (session cs)) → ⊥
fed_needs_sealed = starves 1 waiting 0 0 refl refl (λ e. omega arith)

pub fed_needs_declared : ((cs : List Call) → SupposedBut 3 (session cs) → Fed (session cs)) → ⊥
fed_needs_declared = starves 3 unfed 2 0 refl refl (λ e. omega arith)

pub fed_needs_own_args : ((cs : List Call) → SupposedBut 5 (session cs) → Fed (session cs)) → ⊥
fed_needs_own_args = starves 5 ungiven 0 0 refl refl (λ e. omega arith)
