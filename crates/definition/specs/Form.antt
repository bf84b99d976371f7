-- The state: the graph, and the form that is built over it.
-- Assumes nothing.
use Rattle.std.specs.Prelude.{ℕ, Bool, List}
use Rattle.std.proofs.Math.Option.{Option}
use Rattle.definition.specs.Base.{Block, Variable, Value, or_else}

-- What does not change while a variable is read.
pub record Graph : Type 0 where
  pub call : ℕ  -- how many calls came before this one
  pub blocks : ℕ  -- blocks 0 up to this are declared
  pub types : List ℕ  -- the type of each declared variable
  pub branch : Block → Bool  -- has this block a branch?
  pub dests : Block → List Block  -- the blocks that the branch names, in order
  pub preds : Block → List Block  -- the branches declared to this block, in order
  pub sealed : Block → Bool
  pub declared : Block → Bool  -- was this block's branch ever declared?
  pub marks : Variable → Bool  -- must stack maps have what this variable receives?

pub data Sort : Type 0 where
  made param nought caller : Sort  -- by the caller; a builder's parameter; a zero; a caller's parameter

pub record Info : Type 0 where
  pub sort : Sort
  pub type : ℕ
  pub home : Block

-- What reading, writing and sealing change.
pub record Form : Type 0 where
  pub next : ℕ  -- the number of the next value
  pub makes : ℕ  -- how many of the values were made by the caller
  pub info : Value → Info  -- what each value is
  pub target : Value → Value  -- its alias target, itself for none
  pub params : Block → List Value
  pub owns : Block → ℕ  -- how many of the block's parameters are the caller's: they stand first
  pub args : Block → ℕ → List Value  -- the arguments of a branch at each of its destinations
  pub pending : Block → List (Variable × Value)  -- an unsealed block's pending variables, each with its parameter
  pub entry : Variable → Block → Option Value  -- what stands for the variable where the block begins, once asked for
  pub own : Variable → Block → Option Value  -- the block's last definition of the variable
  pub zeros : List (ℕ × Block)  -- the zero log: call, block
  pub placed : List Block  -- the order of the blocks placed
  pub recorded : Value → Bool  -- must stack maps have this value?

-- The recorded definition, one table in the crate. Nothing is recorded at a block's beginning once it has a definition.
abbrev pub def : Form → Variable → Block → Option Value
def s v b = or_else (s.own v b) (s.entry v b)

-- A record from its fields, in their order; and the record with one field changed.
abbrev pub graph : ℕ → ℕ → List ℕ → (Block → Bool) → (Block → List Block) → (Block → List Block) → (Block → Bool)
    → (Block → Bool) → (Variable → Bool) → Graph
graph c n ts br ds ps sl dc mk =
    record { call = c; blocks = n; types = ts; branch = br; dests = ds; preds = ps; sealed = sl; declared = dc; marks = mk }

module _ (g : Graph) where
  open g use {call, blocks, types, branch, dests, preds, sealed, declared, marks}

  abbrev pub with_call : ℕ → Graph
  with_call new = graph new blocks types branch dests preds sealed declared marks

  abbrev pub with_blocks : ℕ → Graph
  with_blocks new = graph call new types branch dests preds sealed declared marks

  abbrev pub with_types : List ℕ → Graph
  with_types new = graph call blocks new branch dests preds sealed declared marks

  abbrev pub with_branch : (Block → Bool) → Graph
  with_branch new = graph call blocks types new dests preds sealed declared marks

  abbrev pub with_dests : (Block → List Block) → Graph
  with_dests new = graph call blocks types branch new preds sealed declared marks

  abbrev pub with_preds : (Block → List Block) → Graph
  with_preds new = graph call blocks types branch dests new sealed declared marks

  abbrev pub with_sealed : (Block → Bool) → Graph
  with_sealed new = graph call blocks types branch dests preds new declared marks

  abbrev pub with_declared : (Block → Bool) → Graph
  with_declared new = graph call blocks types branch dests preds sealed new marks

  abbrev pub with_marks : (Variable → Bool) → Graph
  with_marks new = graph call blocks types branch dests preds sealed declared new

abbrev pub form : ℕ → ℕ → (Value → Info) → (Value → Value) → (Block → List Value) → (Block → ℕ) → (Block → ℕ → List Value)
    → (Block → List (Variable × Value)) → (Variable → Block → Option Value) → (Variable → Block → Option Value)
    → List (ℕ × Block) → List Block → (Value → Bool) → Form
form n mk i t ps os us ws en ow zs pl rc = record {
  next = n;
  makes = mk;
  info = i;
  target = t;
  params = ps;
  owns = os;
  args = us;
  pending = ws;
  entry = en;
  own = ow;
  zeros = zs;
  placed = pl;
  recorded = rc;
}

module _ (s : Form) where
  open s use {next, makes, info, target, params, owns, args, pending, entry, own, zeros, placed, recorded}

  abbrev pub with_next : ℕ → Form
  with_next new = form new makes info target params owns args pending entry own zeros placed recorded

  abbrev pub with_makes : ℕ → Form
  with_makes new = form next new info target params owns args pending entry own zeros placed recorded

  abbrev pub with_info : (Value → Info) → Form
  with_info new = form next makes new target params owns args pending entry own zeros placed recorded

  abbrev pub with_target : (Value → Value) → Form
  with_target new = form next makes info new params owns args pending entry own zeros placed recorded

  abbrev pub with_params : (Block → List Value) → Form
  with_params new = form next makes info target new owns args pending entry own zeros placed recorded

  abbrev pub with_owns : (Block → ℕ) → Form
  with_owns new = form next makes info target params new args pending entry own zeros placed recorded

  abbrev pub with_args : (Block → ℕ → List Value) → Form
  with_args new = form next makes info target params owns new pending entry own zeros placed recorded

  abbrev pub with_pending : (Block → List (Variable × Value)) → Form
  with_pending new = form next makes info target params owns args new entry own zeros placed recorded

  abbrev pub with_entry : (Variable → Block → Option Value) → Form
  with_entry new = form next makes info target params owns args pending new own zeros placed recorded

  abbrev pub with_own : (Variable → Block → Option Value) → Form
  with_own new = form next makes info target params owns args pending entry new zeros placed recorded

  abbrev pub with_zeros : List (ℕ × Block) → Form
  with_zeros new = form next makes info target params owns args pending entry own new placed recorded

  abbrev pub with_placed : List Block → Form
  with_placed new = form next makes info target params owns args pending entry own zeros new recorded

  abbrev pub with_recorded : (Value → Bool) → Form
  with_recorded new = form next makes info target params owns args pending entry own zeros placed new
