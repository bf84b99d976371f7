-- The seventeen calls, with their refusals in order, and a session: the calls in turn.
-- Assumes nothing.
use Rattle.std.specs.Prelude.{ℕ, zero, suc, ◌-◌}
use Rattle.std.specs.Prelude.{Bool, true, false, not, ◌&&◌, ◌||◌, List, [], ◌∷◌, map, length, get_or, if◌then◌else◌}
use Rattle.std.proofs.Math.Option.{Option, none, some}
use Rattle.entity.specs.Limits.{limits}
use Rattle.entity.specs.Types.{type_count}
use Rattle.definition.specs.Base.{Block, Variable, Value, ◌=?◌, ◌<?◌, ◌≤?◌, put, put₂, is_some, ◌∷ʳ◌, has, any, position, up_from}
use Rattle.definition.specs.Form.{Graph, Form, def, made, caller, graph, form, with_call, with_blocks, with_types, with_branch}
use Rattle.definition.specs.Form.{with_dests, with_preds, with_sealed, with_declared, with_marks, with_makes, with_owns, with_args}
use Rattle.definition.specs.Read.{type_of, write, record_binding, make, place_block, set_params, set_pending, read, depth, settle_pending}

pub record Call : Type 0 where
  pub kind : ℕ
  pub x : ℕ
  pub y : ℕ
  pub z : ℕ

-- a call and its answer
pub record Done : Type 0 where
  pub asked : Call
  pub code : ℕ
  pub number : ℕ

pub record State : Type 0 where
  pub graph : Graph
  pub form : Form
  pub done : List Done

-- refused, with a code; or accepted, with the answer's number and what has changed
pub data Reply : Type 0 where
  no : ℕ → Reply
  ok : ℕ → Graph → Form → Reply

infixr 10 refuse◌when◌else◌
abbrev pub refuse◌when◌else◌ : ℕ → Bool → Reply → Reply
refuse◌when◌else◌ code true r = no code
refuse◌when◌else◌ code false r = r

abbrev pub bit : Bool → ℕ
bit true = 1
bit false = 0

-- removing a predecessor moves the last one into its place
abbrev pub last : ℕ → List ℕ → ℕ
last d [] = d
last d (x ∷ xs) = last x xs

abbrev pub but_last : List ℕ → List ℕ
but_last [] = []
but_last (x ∷ []) = []
but_last (x ∷ y ∷ ys) = x ∷ but_last (y ∷ ys)

abbrev pub swap_out : Block → List Block → List Block
swap_out p ps = but_last (map (λ q. if q =? p then last p ps else q) ps)

-- is branch p declared to some block at present?
abbrev pub declared_anywhere : Graph → Block → Bool
declared_anywhere g p = any (λ b. has p (g.preds b)) (up_from 0 g.blocks)

abbrev pub mark_sealed : Graph → Block → Graph
mark_sealed g b = with_sealed g (put b true g.sealed)

-- sealBlock. P7: the paper marks b last; here it is marked first, then what waits there is settled.
abbrev pub seal_form : Graph → Form → Block → Form
seal_form g s b = settle_pending (mark_sealed g b) b (s.pending b) (set_pending b [] s)

abbrev pub seal_each : List Block → Graph → Form → Graph × Form
seal_each [] g s = (g, s)
seal_each (b ∷ bs) g s = elim (g.sealed b) [ true ↦ seal_each bs g s | false ↦ seal_each bs (mark_sealed g b) (seal_form g s b) ]

-- the value that the accepted use at place i answered
abbrev pub answered : List Done → ℕ → Option Value
answered [] i = none
answered (d ∷ ds) zero = if d.asked.kind =? 6 && d.code =? 0 then some d.number else none
answered (d ∷ ds) (suc i) = answered ds i

module _ (g : Graph) (s : Form) where
  -- what a call names is not there
  abbrev pub no_block : Block → Bool
  no_block b = g.blocks ≤? b

  abbrev pub no_var : Variable → Bool
  no_var v = length g.types ≤? v

  abbrev pub no_value : Value → Bool
  no_value x = s.next ≤? x

  abbrev pub no_branch : Block → Bool
  no_branch p = no_block p || not (g.branch p)

  abbrev pub no_type : ℕ → Bool
  no_type ty = type_count ≤? ty

  -- how many zeros the log has more than here
  abbrev pub added : Form → ℕ
  added s' = length s'.zeros - length s.zeros

  -- kind 1: a known block changes nothing; block 0 is placed when declared
  abbrev pub declare_block : Block → Reply
  declare_block b =
      refuse 4 when limits.blocks ≤? b else
      refuse 5 when g.blocks <? b else
      (if b <? g.blocks then ok b g s else ok b (with_blocks g (suc b)) (if b =? 0 then place_block 0 s else s))

  -- kind 2
  abbrev pub declare_var : Variable → ℕ → Reply
  declare_var v ty =
      refuse 4 when limits.variables ≤? v else
      refuse 5 when length g.types <? v else
      refuse 6 when no_type ty else
      refuse 7 when (v <? length g.types && not (ty =? type_of g v)) else
      (if v <? length g.types then ok v g s else ok v (with_types g (g.types ∷ʳ ty)) s)

  -- kind 3
  abbrev pub make_value : Block → ℕ → Reply
  make_value b ty =
      refuse 6 when (no_block b || no_type ty) else
      refuse 9 when g.branch b else
      refuse 4 when limits.made ≤? s.makes else
      ok s.next g (make made ty b (place_block b (with_makes s (suc s.makes))))

  -- kind 4: an alias is stored as it is; nothing is defined in a block once its branch was declared, also where it was removed again
  abbrev pub define : Variable → Value → Block → Reply
  define v x b =
      refuse 6 when (no_var v || no_value x || no_block b) else
      refuse 7 when not ((s.info x).type =? type_of g v) else
      refuse 20 when g.declared b else
      ok x g (record_binding g v x (write v b x s))

  -- kind 5: the value is what an earlier accepted use answered
  abbrev pub define_answer : Variable → Block → Option Value → Reply
  define_answer v b (some x) = define v x b
  define_answer v b none = no 6

  -- kind 6
  abbrev pub use_var : Variable → Block → Reply
  use_var v b =
      refuse 6 when (no_var v || no_block b) else
      (let r = read (depth g) g v b s in ok r.0 g r.1)

  -- kind 7: a branch bears its block's number
  abbrev pub new_branch : Block → Reply
  new_branch b =
      refuse 6 when no_block b else
      refuse 9 when g.branch b else
      ok b (with_branch g (put b true g.branch)) (place_block b s)

  -- kind 8: a block may be named several times
  abbrev pub new_dest : Block → Block → Reply
  new_dest p b =
      refuse 6 when (no_branch p || no_block b) else
      refuse 11 when declared_anywhere g p else
      refuse 10 when limits.dests ≤? length (g.dests p) else
      ok (length (g.dests p)) (with_dests g (put p (g.dests p ∷ʳ b) g.dests)) s

  -- kind 9: a branch that names a block several times is one predecessor of it
  abbrev pub add_pred : Block → Block → Reply
  add_pred b p =
      refuse 6 when (no_block b || no_branch p) else
      refuse 8 when g.sealed b else
      refuse 13 when not (has b (g.dests p)) else
      refuse 12 when has p (g.preds b) else
      ok (suc (length (g.preds b))) (with_declared (with_preds g (put b (g.preds b ∷ʳ p) g.preds)) (put p true g.declared)) s

  -- kind 10
  abbrev pub drop_pred : Block → Block → Reply
  drop_pred b p =
      refuse 6 when (no_block b || no_branch p) else
      refuse 8 when g.sealed b else
      refuse 13 when not (has p (g.preds b)) else
      ok (position 0 p (g.preds b)) (with_preds g (put b (swap_out p (g.preds b)) g.preds)) s

  -- kind 11
  abbrev pub seal : Block → Reply
  seal b =
      refuse 6 when no_block b else
      refuse 8 when g.sealed b else
      (let s' = seal_form g s b in ok (added s') (mark_sealed g b) s')

  -- kind 12: by block number, and sealed ones are skipped
  abbrev pub seal_all : Reply
  seal_all = let r = seal_each (up_from 0 g.blocks) g s in ok (added r.1) r.0 r.1

  -- kind 13
  abbrev pub any_preds : Block → Reply
  any_preds b = refuse 6 when no_block b else ok (bit (not (length (g.preds b) =? 0))) g s

  -- kind 14
  abbrev pub is_sealed : Block → Reply
  is_sealed b = refuse 6 when no_block b else ok (bit (g.sealed b)) g s

  -- kind 15: a caller's parameter stands before the builder's, so there is none of these yet
  abbrev pub own_param : Block → ℕ → Reply
  own_param b ty =
      refuse 6 when (no_block b || no_type ty) else
      refuse 17 when (g.sealed b || not (length (g.preds b) =? 0) || not (length (s.pending b) =? 0)) else
      refuse 18 when limits.own_params ≤? s.owns b else
      refuse 4 when limits.made ≤? s.makes else
      (let s' = make caller ty b (with_makes s (suc s.makes)) in
      ok s.next g (with_owns (set_params b (s.params b ∷ʳ s.next) s') (put b (suc (s.owns b)) s.owns)))

  -- kind 16: an argument for the next caller's parameter of the destination at place i, stored as it is
  abbrev pub give_arg : Block → Value → ℕ → Reply
  give_arg p x i =
      let d = get_or (g.dests p) i 0 in
      let n = length (s.args p i) in
      refuse 6 when (no_branch p || no_value x || length (g.dests p) ≤? i) else
      refuse 11 when declared_anywhere g p else
      refuse 18 when s.owns d ≤? n else
      refuse 7 when not ((s.info x).type =? (s.info (get_or (s.params d) n 0)).type) else
      ok n g (with_args s (put₂ p i (s.args p i ∷ʳ x) s.args))

  -- kind 17: stack maps must have what v receives; marked before it has any definition, so that none is missed
  abbrev pub mark_var : Variable → Reply
  mark_var v =
      refuse 6 when no_var v else
      refuse 19 when any (λ b. is_some (def s v b)) (up_from 0 g.blocks) else
      ok v (with_marks g (put v true g.marks)) s

  -- the reply to a call of this kind, where ds were done before
  abbrev pub reply : List Done → ℕ → ℕ → ℕ → ℕ → Reply
  reply ds x y z kind = get_or (
      no 3  -- 0
      ∷ declare_block x  -- 1
      ∷ declare_var x y  -- 2
      ∷ make_value x y  -- 3
      ∷ define x y z  -- 4
      ∷ define_answer x z (answered ds y)  -- 5
      ∷ use_var x y  -- 6
      ∷ new_branch x  -- 7
      ∷ new_dest x y  -- 8
      ∷ add_pred x y  -- 9
      ∷ drop_pred x y  -- 10
      ∷ seal x  -- 11
      ∷ seal_all  -- 12
      ∷ any_preds x  -- 13
      ∷ is_sealed x  -- 14
      ∷ own_param x y  -- 15
      ∷ give_arg x y z  -- 16
      ∷ mark_var x  -- 17
      ∷ []) kind (no 3)

abbrev pub tick : Graph → Graph
tick g = with_call g (suc g.call)

-- a refused call changes nothing but the answers
abbrev pub after : State → Call → Reply → State
after t c (no k) = record { graph = tick t.graph; form = t.form; done = t.done ∷ʳ record { asked = c; code = k; number = 0 } }
after t c (ok n g s) = record { graph = tick g; form = s; done = t.done ∷ʳ record { asked = c; code = 0; number = n } }

abbrev pub step : State → Call → State
step t c = after t c (reply t.graph t.form t.done c.x c.y c.z c.kind)

abbrev pub run : State → List Call → State
run t [] = t
run t (c ∷ cs) = run (step t c) cs

-- no block, no variable, no value
abbrev pub empty : State
empty = record {
  graph = graph 0 0 [] (λ b. false) (λ b. []) (λ b. []) (λ b. false) (λ b. false) (λ v. false);
  form = form 0 0 (λ x. record { sort = made; type = 0; home = 0 }) (λ x. x) (λ b. []) (λ b. 0) (λ p i. []) (λ b. []) (λ v b. none) (λ v b. none) [] []
      (λ x. false);
  done = [];
}

-- a session starts empty
abbrev pub session : List Call → State
session cs = run empty cs
