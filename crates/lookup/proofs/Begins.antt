-- Scheduling the predecessors of a block from the last to the first leaves them on the stack in their order: those from place i on are scheduled,
-- and each turn puts the one before on top.
-- Assumes nothing.
use Prim.Native.Nat.{ℕ, suc, ◌+◌, ◌-◌, ◌≤◌, ◌<◌}
use mathlib.Core.Path.{◌≡◌, sym, ap, ◌∙◌, subst}
use mathlib.Core.List.{List, ◌∷◌, ◌++◌, map}
use native.Mathlib.Omega.{arith}
use lib.ListN.{length, get_or, drop, length-map, length-append, length-drop}
use lib.Seq.{drop-cons}
use Rattle.entity.specs.Limits.{limits, call_room}
use Rattle.definition.specs.Form.{Graph}
use Rattle.meaning.specs.Machine.{Task, look, finish}
use Rattle.layout.specs.declared.Counts.{Counts}
use Rattle.layout.specs.Counts.{one_call}
use Rattle.layout.specs.Layout.{Stacks}
use Rattle.graph.specs.Seen.{Seen}
use Rattle.work.specs.Work.{CanCall}
use Rattle.lookup.specs.Find.{CanBegin}

-- the predecessors of b can be scheduled on these stacks
pub record CanSchedule (gl : List ℕ) (b : ℕ) (wl : List ℕ) (c : Counts) (g : Graph) (ts : List Task) (rs : List ℕ) : Type 0 where
  pub seen : Seen gl g
  pub stacks : Stacks wl c ts rs
  pub room : length (g.preds b) + length ts ≤ call_room limits

-- those from place i on are
pub record Scheduled (b : ℕ) (wl : List ℕ) (c : Counts) (i : ℕ) (g : Graph) (ts : List Task) (rs : List ℕ) : Type 0 where
  pub few : i ≤ length (g.preds b)
  pub stacks : Stacks wl c (map look (drop i (g.preds b)) ++ ts) rs

module _ {gl wl : List ℕ} {c : Counts} {x b : ℕ} {g : Graph} {ts : List Task} {rs : List ℕ} (h : CanBegin gl wl c x b g ts rs) where
  pub begin_call : CanCall wl c ts rs
  begin_call = record { stacks = h.stacks; room = omega (arith, h.room) }

  pub begin_schedule : {wl₁ : List ℕ} {r : Counts} → r ≡ one_call c → Stacks wl₁ (one_call c) (finish x b ∷ ts) rs → CanSchedule gl b wl₁ r g (finish x b ∷ ts) rs
  begin_schedule {wl₁} e k = record { seen = h.seen; stacks = subst (λ (d : Counts). Stacks wl₁ d (finish x b ∷ ts) rs) (sym e) k; room = omega (arith, h.room) }

module _ (gl : List ℕ) (b : ℕ) (wl₀ : List ℕ) (c₀ : Counts) where
  abbrev pub Scheduling : List ℕ → Counts → ℕ → Type 0
  Scheduling wl c i = (g : Graph) (ts : List Task) (rs : List ℕ) → CanSchedule gl b wl₀ c₀ g ts rs → Scheduled b wl c i g ts rs

module _ {gl : List ℕ} {b : ℕ} {wl₀ : List ℕ} {c₀ : Counts} where
  module _ {wl : List ℕ} {c : Counts} {i : ℕ} (pos : 0 < i) (S : Scheduling gl b wl₀ c₀ wl c i) where
    pub schedule_room : {g : Graph} {ts : List Task} {rs : List ℕ} → CanSchedule gl b wl₀ c₀ g ts rs → CanCall wl c (map look (drop i (g.preds b)) ++ ts) rs
    schedule_room {g} {ts} {rs} h = let k = S g ts rs h in record { stacks = k.stacks; room = simp (length-append, length-map, length-drop) (omega (arith, h.room, k.few)) }

    pub schedule_next : {wl₁ : List ℕ} {c₁ : Counts} {p : ℕ} → ((g : Graph) → Seen gl g → p ≡ get_or (g.preds b) (i - 1) 0) → c₁ ≡ one_call c
        → ((ts : List Task) → (rs : List ℕ) → CanCall wl c ts rs → Stacks wl₁ (one_call c) (look p ∷ ts) rs)
        → Scheduling gl b wl₀ c₀ wl₁ c₁ (i - 1)
    schedule_next {wl₁} {c₁} {p} at e push g ts rs h =
        let few = (S g ts rs h).few in
        let k : suc (i - 1) ≡ i = omega arith in
        let d : drop (i - 1) (g.preds b) ≡ p ∷ drop i (g.preds b) =
        drop-cons (g.preds b) (i - 1) 0 (omega (arith, few)) ∙ ap (λ (m : ℕ). get_or (g.preds b) (i - 1) 0 ∷ drop m (g.preds b)) k
        ∙ ap (λ (m : ℕ). m ∷ drop i (g.preds b)) (sym (at g h.seen)) in
        record {
          few = omega (arith, few);
          stacks = subst (λ (q : Counts). Stacks wl₁ q (map look (drop (i - 1) (g.preds b)) ++ ts) rs) (sym e)
              (subst (λ (l : List ℕ). Stacks wl₁ (one_call c) (map look l ++ ts) rs) (sym d) (push (map look (drop i (g.preds b)) ++ ts) rs (schedule_room h)));
        }

  pub schedule_end : {wl : List ℕ} {c : Counts} {i : ℕ} → i ≤ 0 → Scheduling gl b wl₀ c₀ wl c i → (g : Graph) (ts : List Task) (rs : List ℕ) → CanSchedule gl b wl₀ c₀ g ts rs
      → Stacks wl c (map look (g.preds b) ++ ts) rs
  schedule_end {wl} {c} {i} le S g ts rs h = let e : i ≡ 0 = omega arith in subst (λ (n : ℕ). Stacks wl c (map look (drop n (g.preds b)) ++ ts) rs) e (S g ts rs h).stacks
