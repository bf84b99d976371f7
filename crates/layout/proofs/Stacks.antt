-- The work stacks: a push stores above the top, each entry can be read, and what is popped is left in its cells, above the new top. A scheduled call
-- is known by its two cells.
-- Assumes nothing.
use Prim.Native.Nat.{ℕ, suc, ◌+◌, ◌-◌, ◌≤◌, ◌<◌}
use mathlib.Core.Path.{◌≡◌, refl, sym, ap, ◌∙◌}
use mathlib.Core.Logic.{◌≢◌, ◌⊎◌, inl, inr}
use mathlib.Core.List.{List, [], ◌∷◌, ◌++◌, map, reverse, reverse-cons, reverse-append}
use native.Mathlib.Omega.{arith}
use lib.ListN.{length, get_or, set, take, drop, length-map, length-set, length-reverse, length-drop, take-append-drop, get_or-append}
use lib.Seq.{get_or-set_same, get_or-set_other, get_or-append_seam}
use Rattle.entity.specs.Limits.{limits, call_room, result_room}
use Rattle.meaning.specs.Machine.{Task, look, finish}
use Rattle.meaning.proofs.Maps.{same?}
use Rattle.layout.specs.declared.Counts.{Counts}
use Rattle.layout.specs.Cells.{sum, base}
use Rattle.layout.specs.Layout.{task_value, task_block, work_sizes, Stacked, Piles, Stacks}
use Rattle.layout.specs.Counts.{one_call, call_less, one_result, results_less}

-- ---- one stack

-- read from its bottom: what is below the top, and the top
below_top : (x : ℕ) (xs : List ℕ) (j : ℕ) → j < length xs → get_or (reverse (x ∷ xs)) j 0 ≡ get_or (reverse xs) j 0
below_top x xs j lt = rw reverse-cons (get_or-append (reverse xs) (x ∷ []) 0 j (rw length-reverse lt))

at_top : (x : ℕ) (xs : List ℕ) (n : ℕ) → n ≡ length xs → get_or (reverse (x ∷ xs)) n 0 ≡ x
at_top x xs n e = rw (reverse-cons, e, ← length-reverse xs) (get_or-append_seam (reverse xs) x [] 0)

module _ (l : List ℕ) (t : ℕ) where
  stacked_push : (x : ℕ) (xs : List ℕ) (n : ℕ) → n ≡ length xs → base work_sizes t + n < length l → Stacked l t xs → Stacked (set l (base work_sizes t + n) x) t (x ∷ xs)
  stacked_push x xs n e fits s j lt room = by (same? j n)
    where
      by : (j ≡ n) ⊎ (j ≢ n) → get_or (set l (base work_sizes t + n) x) (base work_sizes t + j) 0 ≡ get_or (reverse (x ∷ xs)) j 0
      by (inl q) = rw q (get_or-set_same l (base work_sizes t + n) x 0 fits ∙ sym (at_top x xs n e))
      by (inr d) = get_or-set_other l (base work_sizes t + n) (base work_sizes t + j) x 0 (λ q. d (omega arith)) ∙ s j (omega arith) room ∙ sym (below_top x xs j (omega arith))

  -- a store elsewhere
  stacked_aside : (k x : ℕ) (xs : List ℕ) → ((j : ℕ) → j < get_or work_sizes t 0 → base work_sizes t + j ≢ k) → Stacked l t xs → Stacked (set l k x) t xs
  stacked_aside k x xs d s j lt room = get_or-set_other l k (base work_sizes t + j) x 0 (d j room) ∙ s j lt room

  stacked_top : (x : ℕ) (xs : List ℕ) (n : ℕ) → n ≡ length xs → n < get_or work_sizes t 0 → Stacked l t (x ∷ xs) → get_or l (base work_sizes t + n) 0 ≡ x
  stacked_top x xs n e room s = s n (omega arith) room ∙ at_top x xs n e

  stacked_pop : (x : ℕ) (xs : List ℕ) → Stacked l t (x ∷ xs) → Stacked l t xs
  stacked_pop x xs s j lt room = s j (omega arith) room ∙ below_top x xs j lt

  stacked_drop : (n : ℕ) (xs : List ℕ) → Stacked l t xs → Stacked l t (drop n xs)
  stacked_drop n xs s j lt room =
      let e : reverse xs ≡ reverse (drop n xs) ++ reverse (take n xs) = ap reverse (sym (take-append-drop n xs)) ∙ reverse-append (take n xs) (drop n xs) in
      s j (omega (arith, length-drop n xs)) room ∙ ap (λ (q : List ℕ). get_or q j 0) e ∙ get_or-append (reverse (drop n xs)) (reverse (take n xs)) 0 j (rw length-reverse lt)

-- ---- the two stacks

-- a scheduled call from its two cells
pub task_look : (q : Task) → task_value q ≡ 0 → look (task_block q) ≡ q
task_look (look p) e = refl
task_look (finish x b) e = absurd (omega arith)

pub task_finish : (q : Task) → task_value q ≢ 0 → finish (task_value q - 1) (task_block q) ≡ q
task_finish (look p) n = absurd (n refl)
task_finish (finish x b) n = let e : suc x - 1 ≡ x = omega arith in ap (λ (k : ℕ). finish k b) e

-- nothing is scheduled and nothing held, whatever the cells hold
pub no_piles : (l : List ℕ) → sum work_sizes ≤ length l → Piles l [] []
no_piles l long = record { long = long; values = λ j lt. absurd (omega arith); blocks = λ j lt. absurd (omega arith); held = λ j lt. absurd (omega arith) }

module _ (l : List ℕ) (c : Counts) (ts : List Task) (rs : List ℕ) where
  pub stacks_call : Stacks l c ts rs → length ts < call_room limits → (q : Task)
      → Stacks (set (set l (base work_sizes 0 + c.calls) (task_value q)) (base work_sizes 1 + c.calls) (task_block q)) (one_call c) (q ∷ ts) rs
  stacks_call s room q =
      let n = c.calls in
      let l₁ = set l (base work_sizes 0 + n) (task_value q) in
      let low : n < call_room limits = omega (arith, s.calls) in
      let e : length l₁ ≡ length l = length-set l (base work_sizes 0 + n) (task_value q) in
      record {
        cells = record {
          long = simp length-set s.cells.long;
          values = stacked_aside l₁ 0 (base work_sizes 1 + n) (task_block q) (map task_value (q ∷ ts)) (λ j lt. omega arith)
              (stacked_push l 0 (task_value q) (map task_value ts) n (s.calls ∙ sym (length-map ts task_value)) (omega (arith, s.cells.long)) s.cells.values);
          blocks = stacked_push l₁ 1 (task_block q) (map task_block ts) n (s.calls ∙ sym (length-map ts task_block)) (omega (arith, s.cells.long, e))
              (stacked_aside l 1 (base work_sizes 0 + n) (task_value q) (map task_block ts) (λ j lt. omega arith) s.cells.blocks);
          held = stacked_aside l₁ 2 (base work_sizes 1 + n) (task_block q) rs (λ j lt. omega arith)
              (stacked_aside l 2 (base work_sizes 0 + n) (task_value q) rs (λ j lt. omega arith) s.cells.held);
        };
        calls = omega (arith, s.calls);
        results = s.results;
      }

  pub stacks_result : Stacks l c ts rs → length rs < result_room limits → (x : ℕ) → Stacks (set l (base work_sizes 2 + c.results) x) (one_result c) ts (x ∷ rs)
  stacks_result s room x =
      let n = c.results in
      let low : n < result_room limits = omega (arith, s.results) in
      record {
        cells = record {
          long = simp length-set s.cells.long;
          values = stacked_aside l 0 (base work_sizes 2 + n) x (map task_value ts) (λ j lt. omega arith) s.cells.values;
          blocks = stacked_aside l 1 (base work_sizes 2 + n) x (map task_block ts) (λ j lt. omega arith) s.cells.blocks;
          held = stacked_push l 2 x rs n s.results (omega (arith, s.cells.long)) s.cells.held;
        };
        calls = s.calls;
        results = omega (arith, s.results);
      }

  -- the call q on top, at height n
  module _ (q : Task) (s : Stacks l c (q ∷ ts) rs) (n : ℕ) (e : n ≡ length ts) (room : n < call_room limits) where
    pub top_value : get_or l (base work_sizes 0 + n) 0 ≡ task_value q
    top_value = stacked_top l 0 (task_value q) (map task_value ts) n (e ∙ sym (length-map ts task_value)) room s.cells.values

    pub top_block : get_or l (base work_sizes 1 + n) 0 ≡ task_block q
    top_block = stacked_top l 1 (task_block q) (map task_block ts) n (e ∙ sym (length-map ts task_block)) room s.cells.blocks

  pub stacks_uncall : (q : Task) → Stacks l c (q ∷ ts) rs → Stacks l (call_less c) ts rs
  stacks_uncall q s = record {
    cells = record {
      long = s.cells.long;
      values = stacked_pop l 0 (task_value q) (map task_value ts) s.cells.values;
      blocks = stacked_pop l 1 (task_block q) (map task_block ts) s.cells.blocks;
      held = s.cells.held;
    };
    calls = omega (arith, s.calls);
    results = s.results;
  }

  -- the last n results leave
  pub stacks_drop : Stacks l c ts rs → (n : ℕ) → Stacks l (results_less n c) ts (drop n rs)
  stacks_drop s n = record {
    cells = record { long = s.cells.long; values = s.cells.values; blocks = s.cells.blocks; held = stacked_drop l 2 n rs s.cells.held };
    calls = s.calls;
    results = omega (arith, s.results, length-drop n rs);
  }
