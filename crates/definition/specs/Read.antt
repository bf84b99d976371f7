-- Reading and writing a variable, settling a parameter: Braun and others, algorithms 1 to 4.
-- P1 to P8 mark where the crate departs from the paper; docs/DIFFERENCES.md has them with their reasons. Assumes nothing.
use Rattle.std.specs.Prelude.{ℕ, zero, suc, Bool, true, false, ◌&&◌, List, [], ◌∷◌, map, eqb, get_or, if◌then◌else◌}
use Rattle.std.proofs.Math.Option.{Option, none, some}
use Rattle.entity.specs.Types.{step_of}
use Rattle.definition.specs.Base.{Block, Variable, Value, ◌=?◌, put, put₂, ◌∷ʳ◌, has, every, without, before}
use Rattle.definition.specs.Form.{Graph, Form, Sort, param, nought, def, with_next, with_info, with_target}
use Rattle.definition.specs.Form.{with_params, with_args, with_pending, with_entry, with_own, with_zeros, with_placed, with_recorded}

-- a change of the form, with the value that it answers
abbrev pub Got : Type 0
Got = Value × Form

-- Follow alias targets to a value that is its own target. In a session's form as many links as there are values always suffice.
abbrev pub follow : ℕ → (Value → Value) → Value → Value
follow zero t x = x
follow (suc n) t x = elim (t x =? x) [ true ↦ x | false ↦ follow n t (t x) ]

abbrev pub resolve : Form → Value → Value
resolve s x = follow s.next s.target x

-- the type of variable v
abbrev pub type_of : Graph → Variable → ℕ
type_of g v = get_or g.types v 0

-- ---- small changes

-- writeVariable: b defines v as x
abbrev pub write : Variable → Block → Value → Form → Form
write v b x s = with_own s (put₂ v b (some x) s.own)

-- x stands for v where b begins
abbrev pub mark_one : Variable → Value → Block → Form → Form
mark_one v x b s = with_entry s (put₂ v b (some x) s.entry)

-- x stands for v where each of these blocks begins
abbrev pub mark : Variable → Value → List Block → Form → Form
mark v x [] s = s
mark v x (b ∷ bs) s = mark_one v x b (mark v x bs s)

-- the next value is of sort k and type ty, in block b
abbrev pub make : Sort → ℕ → Block → Form → Form
make k ty b s = with_info (with_next s (suc s.next)) (put s.next (record { sort = k; type = ty; home = b }) s.info)

abbrev pub set_params : Block → List Value → Form → Form
set_params b xs s = with_params s (put b xs s.params)

abbrev pub set_pending : Block → List (Variable × Value) → Form → Form
set_pending b ws s = with_pending s (put b ws s.pending)

-- The parameter x of b becomes another name of y and leaves b's list; the others keep their order.
-- P1: where the paper rewrites the uses of x, x stays where it is recorded, answered or passed on, as an alias.
abbrev pub alias : Block → Value → Value → Form → Form
alias b x y s = set_params b (without x (s.params b)) (with_target s (put x y s.target))

abbrev pub place_block : Block → Form → Form
place_block b s = with_placed s (if has b s.placed then s.placed else s.placed ∷ʳ b)

-- call c added a zero in block b
abbrev pub log_zero : ℕ → Block → Form → Form
log_zero c b s = with_zeros s (s.zeros ∷ʳ (c, b))

-- the value from which a zero is made, where it takes two steps
abbrev pub emit_step : Option ℕ → Block → Form → Form
emit_step none b s = s
emit_step (some ty) b s = make nought ty b s

-- a zero of this type in block b; where that takes two steps, the second is the zero
abbrev pub emit_zero : ℕ → Block → Form → Got
emit_zero ty b s = let s' = emit_step (step_of ty) b s in (s'.next, make nought ty b s')

-- record_stack_map_binding: v receives x, so stack maps must have x if v is marked
abbrev pub record_binding : Graph → Variable → Value → Form → Form
record_binding g v x s = with_recorded s (if g.marks v then put x true s.recorded else s.recorded)

-- a parameter for v on c, recorded there
abbrev pub new_param : Graph → Variable → Block → Form → Form
new_param g v c s =
    let x = s.next in
    record_binding g v x (mark_one v x c (set_params c (s.params c ∷ʳ x) (make param (type_of g v) c s)))

-- v waits in c with its parameter x
abbrev pub wait : Variable → Block → Value → Form → Form
wait v c x s = set_pending c (s.pending c ∷ʳ (v, x)) s

-- ---- settling a parameter

-- is b the destination at place i?
abbrev pub is_dest : List Block → ℕ → Block → Bool
is_dest [] i b = false
is_dest (d ∷ ds) zero b = d =? b
is_dest (d ∷ ds) (suc i) b = is_dest ds i b

-- The arguments us, with x appended at each destination of branch p, among ds, that is b.
-- P2: the paper has one operand per predecessor; here each destination that names the block carries it.
abbrev pub feed : Block → Block → Value → List Block → (Block → ℕ → List Value) → Block → ℕ → List Value
feed p b x ds us q i = if q =? p && is_dest ds i b then us q i ∷ʳ x else us q i

-- each predecessor feeds its own result, unresolved
abbrev pub feed_all : Graph → Block → List Block → List Value → (Block → ℕ → List Value) → Block → ℕ → List Value
feed_all g b [] rs us = us
feed_all g b (p ∷ ps) [] us = us
feed_all g b (p ∷ ps) (r ∷ rs) us = feed_all g b ps rs (feed p b r (g.dests p) us)

-- tryRemoveTrivialPhi: the parameter x of b, its predecessors' results rs, and what is left of them, resolved and without x.
-- P3: nothing left, the paper answers an undefined mark; here it is a zero of that type in b.
-- P4: x removed, the paper tries the parameters again that took x; here they stay as they are.
abbrev pub settle_left : Graph → Block → Value → List Value → Form → List Value → Got
settle_left g b x rs s [] =
    let z = emit_zero (s.info x).type b (log_zero g.call b (place_block b s)) in
    (z.0, alias b x z.0 z.1)
settle_left g b x rs s (y ∷ ys) =
    if every (eqb y) ys then (y, alias b x y s) else (x, with_args s (feed_all g b (g.preds b) rs s.args))

abbrev pub settle : Graph → Block → Value → List Value → Form → Got
settle g b x rs s = settle_left g b x rs s (without x (map (resolve s) rs))

-- ---- the walk over single predecessors
-- P5: the paper reads a single predecessor by recursion. Here that is a walk, which also ends on a ring of such blocks.

-- the only predecessor, where a block is sealed and has just one
abbrev pub only : Bool → List Block → Option Block
only true (p ∷ []) = some p
only true (p ∷ q ∷ ps) = none
only true [] = none
only false ps = none

abbrev pub single : Graph → Block → Option Block
single g b = only (g.sealed b) (g.preds b)

-- the blocks that a walk passed, where it ended, and the definition that it met there
pub record Walk : Type 0 where
  pub passed : List Block
  pub end : Block
  pub met : Option Value

abbrev pub stop : Block → Walk
stop b = record { passed = []; end = b; met = none }

-- from b to its predecessor p, where a definition may stand; else on by `rec`
abbrev pub on_to : (Block → Walk) → Block → Block → Option Value → Walk
on_to rec b p (some x) = record { passed = b ∷ []; end = p; met = some x }
on_to rec b p none = let w = rec p in record { passed = b ∷ w.passed; end = w.end; met = w.met }

-- the walk stops at a block seen before, and at one without a single predecessor
abbrev pub past : (Block → Walk) → Form → Variable → Block → Bool → Option Block → Walk
past rec s v b true q = stop b
past rec s v b false none = stop b
past rec s v b false (some p) = on_to rec b p (def s v p)

-- from b, which has no definition of v; `seen` was passed. One step more than there are blocks always suffices.
abbrev pub walk : ℕ → Graph → Form → Variable → List Block → Block → Walk
walk zero g s v seen b = stop b
walk (suc n) g s v seen b = past (walk n g s v (b ∷ seen)) s v b (has b seen) (single g b)

-- ---- reading
-- Reading calls itself at each predecessor: that is `rec`.

-- Read each predecessor in turn. P8: the paper gives no order here; the crate reads them as they were declared.
abbrev pub read_all : (Block → Form → Got) → List Block → Form → List Value × Form
read_all rec [] s = ([], s)
read_all rec (p ∷ ps) s = let r = rec p s in let q = read_all rec ps r.1 in (r.0 ∷ q.0, q.1)

module _ (rec : Block → Form → Got) (g : Graph) where
  -- addPhiOperands: the parameter x of b
  abbrev pub fill : Block → Value → Form → Got
  fill b x s = let q = read_all rec (g.preds b) s in settle g b x q.0 q.1

  -- The new parameter x of c: a sealed block reads its predecessors, another waits. Before that x is recorded in the blocks bs too.
  -- P6: the paper records the settled value afterwards; here the parameter stays recorded.
  abbrev pub begin : Variable → Block → Value → List Block → Form → Bool → Got
  begin v c x bs s true = fill c x (mark v x bs s)
  begin v c x bs s false = (x, mark v x bs (wait v c x s))

  -- readVariableRecursive, after the walk over the blocks `passed` to c, where a definition may have been met
  abbrev pub read_past : Variable → Form → List Block → Block → Option Value → Got
  read_past v s passed c (some x) = (x, mark v x passed s)
  read_past v s passed c none = begin v c s.next (before c passed) (new_param g v c s) (g.sealed c)

  -- readVariable, where this is recorded of v in b
  abbrev pub read_on : Variable → Block → Form → Option Value → Got
  read_on v b s (some x) = (x, s)
  read_on v b s none = let w = walk (suc g.blocks) g s v [] b in read_past v s w.passed w.end w.met

-- readVariable, at most n levels deep
abbrev pub read : ℕ → Graph → Variable → Block → Form → Got
read zero g v b s = (zero, s)
read (suc n) g v b s = read_on (read n g v) g v b s (def s v b)

-- the depth that always suffices: each level gives one more block a definition of v
abbrev pub depth : Graph → ℕ
depth g = suc g.blocks

-- sealBlock: settle the pending variables in the order in which they came to wait, where g has the block marked as sealed.
-- P8: the paper gives no order here either.
abbrev pub settle_pending : Graph → Block → List (Variable × Value) → Form → Form
settle_pending g b [] s = s
settle_pending g b (w ∷ ws) s = settle_pending g b ws (fill (read (depth g) g w.0) g b w.1 s).1
