-- The tests of the tables: the library's `all` is the definition's `every`, and together they decide `Drawable`.
-- Assumes nothing.
use Prim.Native.Nat.{ℕ, zero, suc, ◌<◌, ◌≤◌}
use mathlib.Core.Path.{◌≡◌, refl, sym, ap, ◌∙◌}
use mathlib.Core.Bool.{Bool, true, false, not, ◌&&◌, ◌||◌}
use mathlib.Core.List.{List}
use native.Mathlib.Numerals.{add-one}
use native.Mathlib.Omega.{arith}
use borrow.Author.Tests.{ltb-true, leb-true, lt-ltb, le-leb, lt-leb}
use lib.ListN.{get_or}
use Rattle.std.specs.List.{list_all, range_with_len}
use Rattle.entity.specs.Limits.{limits, value_room, param_room}
use Rattle.definition.specs.Base.{◌<?◌, ◌≤?◌, every, up_from}
use Rattle.meaning.proofs.Decide.{Decides, turned, both, implied, each}
use Rattle.meaning.proofs.Maps.{and_both}
use Rattle.meaning.proofs.Rest.{up_below}
use Rattle.meaning.proofs.Whole.{up_in}
use Rattle.layout.specs.Rows.{entries}
use Rattle.drawable.specs.Fits.{params_at, dests_at, row_fits, blocks, values, branches, args_fit, branch_fits, block_fits, drawable}
use Rattle.drawable.specs.Drawable.{RowFits, BranchFits, Drawable}

-- ---- all of the numbers from i on, so many, as the library says it

module _ (f : ℕ → Bool) where
  pub every_up : (i n : ℕ) → list_all f (range_with_len i n) ≡ every f (up_from i n)
  every_up i zero = refl
  every_up i (suc n) = ap (λ (k : ℕ). f i && list_all f (range_with_len k n)) (add-one i) ∙ ap (λ (z : Bool). f i && z) (every_up (suc i) n)

-- ---- the tests in their order

module _ (room n : ℕ) (cells : List ℕ) (a : ℕ) where
  pub row_past : room < get_or cells a 0 → row_fits room n cells a ≡ false
  unfolding row_fits
  row_past h = ap (λ (z : Bool). z && every (λ x. x <? n) (entries cells a)) (lt-leb (get_or cells a 0) room h)

  pub row_tested : get_or cells a 0 ≤ room → row_fits room n cells a ≡ every (λ x. x <? n) (entries cells a)
  unfolding row_fits
  row_tested h = ap (λ (z : Bool). z && every (λ x. x <? n) (entries cells a)) (le-leb (get_or cells a 0) room h)

  pub row_few : row_fits room n cells a ≡ true → get_or cells a 0 ≤ room
  unfolding row_fits
  row_few e = leb-true (get_or cells a 0) room (and_both (get_or cells a 0 ≤? room) (every (λ x. x <? n) (entries cells a)) e).0

-- the row at a', tested where the code found it
pub row_is : (room n : ℕ) (cells : List ℕ) {a a' : ℕ} {r z : Bool} → r ≡ row_fits room n cells a → a ≡ a' → r ≡ z → row_fits room n cells a' ≡ z
row_is room n cells p e q = ap (row_fits room n cells) (sym e) ∙ sym p ∙ q

module _ (graph form : List ℕ) where
  module _ (b : ℕ) where
    pub branch_off : row_fits limits.dests (blocks graph) graph (dests_at b) ≡ false → branch_fits graph form b ≡ false
    unfolding branch_fits
    branch_off e = ap (λ (z : Bool). z && every (args_fit form b) (up_from 0 (get_or graph (dests_at b) 0))) e

    pub branch_on : {a : ℕ} → a ≡ dests_at b → row_fits limits.dests (blocks graph) graph (dests_at b) ≡ true
        → every (args_fit form b) (up_from 0 (get_or graph a 0)) ≡ branch_fits graph form b
    unfolding branch_fits
    branch_on p e =
        ap (λ (k : ℕ). every (args_fit form b) (up_from 0 (get_or graph k 0))) p
        ∙ sym (ap (λ (z : Bool). z && every (args_fit form b) (up_from 0 (get_or graph (dests_at b) 0))) e)

    pub block_off : row_fits (param_room limits) (values form) form (params_at b) ≡ false → block_fits graph form b ≡ false
    unfolding block_fits
    block_off e = ap (λ (z : Bool). z && (not (branches graph b) || branch_fits graph form b)) e

    -- its parameters fit, and its branch does, if it has one: m is its mark
    module _ (e : row_fits (param_room limits) (values form) form (params_at b) ≡ true) where
      pub block_by : {m : Bool} → branches graph b ≡ m → block_fits graph form b ≡ (not m || branch_fits graph form b)
      unfolding block_fits
      block_by {m} q = ap (λ (z : Bool). z && (not (branches graph b) || branch_fits graph form b)) e ∙ ap (λ (z : Bool). not z || branch_fits graph form b) q

  pub blocks_past : limits.blocks < blocks graph → drawable graph form ≡ false
  unfolding drawable
  blocks_past h = rw (lt-leb (blocks graph) limits.blocks h)

  module _ (few : blocks graph ≤ limits.blocks) where
    pub values_past : value_room limits < values form → drawable graph form ≡ false
    unfolding drawable
    values_past h = rw (le-leb (blocks graph) limits.blocks few, lt-leb (values form) (value_room limits) h)

    pub by_blocks : values form ≤ value_room limits → drawable graph form ≡ every (block_fits graph form) (up_from 0 (blocks graph))
    unfolding drawable
    by_blocks h = rw (le-leb (blocks graph) limits.blocks few, le-leb (values form) (value_room limits) h)

-- ---- what they decide

at_most : (m n : ℕ) → Decides (m ≤? n) (m ≤ n)
at_most m n = record { sound = leb-true m n; complete = le-leb m n }

less : (m n : ℕ) → Decides (m <? n) (m < n)
less m n = record { sound = ltb-true m n; complete = lt-ltb m n }

each_up : {P : ℕ → Type 0} {f : ℕ → Bool} → ((x : ℕ) → Decides (f x) (P x)) → (n : ℕ) → Decides (every f (up_from 0 n)) ((x : ℕ) → x < n → P x)
each_up d n = turned (λ h x lt. h x (up_in n 0 x (omega arith) (omega arith))) (λ h x i. h x (omega (arith, up_below n 0 x i))) (each d (up_from 0 n))

row_decided : (room n : ℕ) (cells : List ℕ) (a : ℕ) → Decides (row_fits room n cells a) (RowFits room n cells a)
unfolding row_fits
row_decided room n cells a =
    turned (λ h. record { few = h.0; below = h.1 }) (λ h. (h.few, h.below))
    (both (at_most (get_or cells a 0) room) (each (λ x. less x n) (entries cells a)))

module _ (graph form : List ℕ) where
  branch_decided : (b : ℕ) → Decides (branch_fits graph form b) (BranchFits graph form b)
  unfolding branch_fits
  branch_decided b =
      turned (λ h. record { dests = h.0; args = h.1 }) (λ h. (h.dests, h.args))
      (both (row_decided _ _ _ _) (each_up (λ i. row_decided _ _ _ _) (get_or graph (dests_at b) 0)))

  pub drawable_decided : Decides (drawable graph form) (Drawable graph form)
  unfolding drawable block_fits
  drawable_decided =
      turned (λ h. record { few_blocks = h.0.0; few_values = h.0.1; params = λ b lt. (h.1 b lt).0; branch = λ b lt. (h.1 b lt).1 })
      (λ h. ((h.few_blocks, h.few_values), λ b lt. (h.params b lt, h.branch b lt)))
      (both (both (at_most _ _) (at_most _ _)) (each_up (λ b. both (row_decided _ _ _ _) (implied (branches graph b) (branch_decided b))) (blocks graph)))
