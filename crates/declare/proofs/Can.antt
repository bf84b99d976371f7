-- What the functions over the form ask follows of each state that the cells show: every session keeps to the limits, and places a block once.
-- Assumes nothing.
use Prim.Native.Nat.{ℕ, suc, ◌≤◌, ◌<◌}
use mathlib.Core.Path.{◌≡◌, refl, ap, ◌∙◌}
use mathlib.Core.Logic.{inl, inr}
use mathlib.Core.Option.{some}
use mathlib.Core.Bool.{false}
use mathlib.Core.List.{List, ◌∷◌}
use lib.ListN.{length, get_or}
use native.Mathlib.Omega.{arith}
use native.Mathlib.Nat.{le_trans}
use Rattle.entity.specs.Limits.{limits, value_room, param_room}
use Rattle.entity.specs.Types.{type_count}
use Rattle.definition.specs.Base.{has, ◌∷ʳ◌}
use Rattle.definition.specs.Form.{Form, caller, with_makes}
use Rattle.definition.specs.Read.{write, make, place_block, set_params}
use Rattle.definition.specs.Session.{State}
use Rattle.meaning.specs.Path.{In}
use Rattle.meaning.specs.Rooms.{Rooms}
use Rattle.meaning.proofs.Maps.{false_true}
use Rattle.meaning.proofs.Lists.{has_in, getD_in}
use Rattle.meaning.proofs.Sums.{pigeon}
use Rattle.meaning.proofs.Steady.{Steady, steady_of, steady_rooms}
use Rattle.meaning.proofs.Port.{make_room, own_room, give_room}
use Rattle.meaning.proofs.Sealing.{idle}
use Rattle.meaning.proofs.Stored.{stored_of}
use Rattle.layout.specs.declared.Counts.{Counts}
use Rattle.layout.specs.Counts.{more}
use Rattle.layout.specs.Layout.{Shows}
use Rattle.form.specs.Can.{Cells, CanMake, CanCount, HasValue, HasDef, HasDefs, CanPlace, CanAppend, HasParam, HasPending, HasOwns, CanOwn, HasArgs, CanFeed}
use Rattle.reply.specs.Replies.{Showing}
use Rattle.reply.proofs.Asked.{cells}
use Rattle.declare.proofs.Owns.{begun, bare}

module _ {gl fl : List ℕ} {c : Counts} {t : State} (h : Showing gl fl c t) where
  steady : Steady t.graph t.form
  steady = steady_of t h.sure

  rooms : Rooms t.graph t.form
  rooms = steady_rooms t.graph t.form steady

  pub has_value : (x : ℕ) → x < t.form.next → HasValue fl x t.form
  has_value x l = record { cells = cells h; there = l; room = rooms.values }

  pub value_typed : (x : ℕ) → x < t.form.next → (t.form.info x).type < type_count
  value_typed = h.sure.safe.ranged.valued.types

  pub value_small : (x : ℕ) → x < t.form.next → x < value_room limits
  value_small x l = le_trans l rooms.values

  pub has_def : (v b : ℕ) → v < limits.variables → b < limits.blocks → HasDef fl v b t.form
  has_def v b lv lb = record { cells = cells h; var = lv; known = lb }

  pub has_defs : (v n : ℕ) → v < limits.variables → n ≤ limits.blocks → HasDefs fl v n t.form
  has_defs v n lv ln = record { cells = cells h; var = lv; known = ln }

  -- a definition is stored, and its value can be recorded for stack maps
  pub has_written : (v x b : ℕ) → x < t.form.next → {lent : List ℕ} → Cells lent (write v b x t.form) → HasValue lent x (write v b x t.form)
  has_written v x b l shown = record { cells = shown; there = l; room = rooms.values }

  -- a block that is not placed yet is one more than those that are
  unplaced : (b : ℕ) → b < limits.blocks → has b t.form.placed ≡ false → length t.form.placed < limits.blocks
  unplaced b lb e = pigeon some limits.blocks (b ∷ t.form.placed) ((λ i. false_true e (has_in b t.form.placed i)), h.sure.safe.ranged.logs.once) low
    where
      low : (d : ℕ) → In d (b ∷ t.form.placed) → (w : ℕ) × (w < limits.blocks) × (some w ≡ some d)
      low d (inl q) = (d, omega (arith, lb, q), refl)
      low d (inr i) = (d, le_trans (h.sure.safe.ranged.logs.within d i) h.sure.safe.bounds.few, refl)

  -- placing asks of a form only which blocks are placed
  pub can_place : {lent : List ℕ} (s : Form) → s.placed ≡ t.form.placed → Cells lent s → (b : ℕ) → b < limits.blocks → CanPlace lent b s
  can_place s e shown b lb = record { placed = record { cells = shown; few = rw e rooms.placed }; row = rw e (unplaced b lb) }

  module _ (room : t.form.makes < limits.made) where
    pub can_count : CanCount fl t.form
    can_count = record { cells = cells h; room = room }

    -- after it is counted and its block placed, a made value is as new as before
    pub can_make : {lent : List ℕ} (b : ℕ) → Cells lent (place_block b (with_makes t.form (suc t.form.makes))) → CanMake lent c
        (place_block b (with_makes t.form (suc t.form.makes)))
    can_make b shown = record {
      shows = record { cells = shown; next = h.leaves.form.next };
      room = make_room t h.sure room;
      fresh = h.sure.whole.inv.aliased.fresh t.form.next (omega arith);
      unrecorded = h.sure.safe.ranged.unrecorded t.form.next (omega arith);
    }

  -- ---- caller's parameters and their arguments

  pub has_pending : (b : ℕ) → b < limits.blocks → HasPending fl b t.form
  has_pending b lb = record { cells = cells h; known = lb; few = rooms.waits b }

  pub has_owns : (b : ℕ) → b < limits.blocks → HasOwns fl b t.form
  has_owns b lb = record { cells = cells h; known = lb }

  pub has_args : (p i : ℕ) → p < limits.blocks → i < limits.dests → HasArgs fl p i t.form
  has_args p i lp li = record { cells = cells h; branch = lp; place = li; few = rooms.args p i }

  -- where the builder has not begun with b, a caller's parameter can be made there, after it is counted
  pub can_append : (b : ℕ) → b < limits.blocks → begun t.graph t.form b ≡ false → t.form.owns b < limits.own_params → t.form.makes < limits.made
      → {lent : List ℕ} → Cells lent (with_makes t.form (suc t.form.makes)) → CanAppend lent c b (with_makes t.form (suc t.form.makes))
  can_append b lb e few room shown =
      let q = bare t.graph t.form b e in
      record {
        make = record {
          shows = record { cells = shown; next = h.leaves.form.next };
          room = make_room t h.sure room;
          fresh = h.sure.whole.inv.aliased.fresh t.form.next (omega arith);
          unrecorded = h.sure.safe.ranged.unrecorded t.form.next (omega arith);
        };
        known = lb;
        row = (own_room t h.sure b q.0 q.1 few).1;
      }

  -- and then be counted for b
  pub can_own : (b ty : ℕ) → b < limits.blocks → t.form.owns b < limits.own_params → {lent : List ℕ}
      → let s = set_params b (t.form.params b ∷ʳ t.form.next) (make caller ty b (with_makes t.form (suc t.form.makes))) in
      Shows lent (more c) s → CanOwn lent b s
  can_own b ty lb few shown = record { owns = record { cells = shown.cells; known = lb }; room = few }

  -- the caller's parameter of d that the next argument at a destination to d is for, in the argument's place n
  module _ (p i d n : ℕ) (ld : d < limits.blocks) (place : n ≡ length (t.form.args p i)) (left : n < t.form.owns d) where
    rooms_left : (length (t.form.args p i) < param_room limits) × (length (t.form.args p i) < length (t.form.params d))
    rooms_left = give_room t h.sure p i d (rw (← place) left)

    inside : n < length (t.form.params d)
    inside = rw place rooms_left.1

    pub has_param : HasParam fl d n t.form
    has_param = record { params = record { cells = cells h; known = ld; few = rooms.params d }; there = inside }

    param_there : get_or (t.form.params d) n 0 < t.form.next
    param_there = ((stored_of t.graph steady.sound steady.bounds idle 0 t.form steady.rest).params d _ (getD_in (t.form.params d) n inside)).1

    pub param_value : {x : ℕ} → x ≡ get_or (t.form.params d) n 0 → HasValue fl x t.form
    param_value e = has_value _ (rw e param_there)

    -- d and n were read from the cells, and so were the parameter x and its type w
    pub param_type : {d' x w : ℕ} → d ≡ d' → x ≡ get_or (t.form.params d) n 0
        → ((s : Form) → HasValue fl x s → (s.info x).type < type_count → w ≡ (s.info x).type)
        → w ≡ (t.form.info (get_or (t.form.params d') (length (t.form.args p i)) 0)).type
    param_type {d' = d'} f e T =
        T t.form (param_value e) (value_typed _ (rw e param_there))
        ∙ ap (λ (y : ℕ). (t.form.info y).type) (e ∙ ap (λ (b : ℕ). get_or (t.form.params b) n 0) f ∙ ap (λ (j : ℕ). get_or (t.form.params d') j 0) place)

    pub some_left : {d' : ℕ} → d ≡ d' → length (t.form.args p i) < t.form.owns d'
    some_left f = rw (← f, ← place) left

    pub can_feed : p < limits.blocks → i < limits.dests → CanFeed fl p i t.form
    can_feed lp li = record { cells = cells h; branch = lp; place = li; row = rooms_left.0 }
