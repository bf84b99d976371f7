-- What a finished session means on a path, and demand 3.
-- Assumes nothing.
use Rattle.std.specs.Prelude.{ℕ, ◌<◌}
use Rattle.std.specs.Prelude.{◌≡◌, ◌⊎◌, Bool, true, false, cond, ◌&&◌, ◌||◌, List, [], ◌∷◌, ◌++◌, eqb, length, get_or, take}
use Rattle.definition.specs.Base.{put}
use Rattle.definition.specs.Form.{Form, Sort, made, param, nought, caller}
use Rattle.definition.specs.Read.{resolve, type_of}
use Rattle.definition.specs.Session.{Call, Done, State, session}

-- x is in the list
abbrev pub In : {A : Type 0} → A → List A → Type 0
In x [] = ⊥
In x (y ∷ ys) = (x ≡ y) ⊎ In x ys

-- What a block itself does, in list order: make a value, give a variable a value, use a variable with an answer.
pub data Act : Type 0 where
  makes : ℕ → Act
  gives : ℕ → ℕ → Act
  uses : ℕ → ℕ → Act

abbrev pub if_so : {A : Type 0} → Bool → A → List A
if_so true a = a ∷ []
if_so false a = []

-- what an accepted call of kinds 3 to 6 does in block b
abbrev pub act : ℕ → Done → List Act
act b d =
    let k = d.asked.kind in
    let yes? = eqb d.code 0 in
    if_so (yes? && eqb k 3 && eqb d.asked.x b) (makes d.number)
    ++ if_so (yes? && (eqb k 4 || eqb k 5) && eqb d.asked.z b) (gives d.asked.x d.number)
    ++ if_so (yes? && eqb k 6 && eqb d.asked.y b) (uses d.asked.x d.number)

abbrev pub acts : ℕ → List Done → List Act
acts b [] = []
acts b (d ∷ ds) = act b d ++ acts b ds

-- what an accepted call of kind 16 gives to the destination of branch p at place i, and all that it was given
abbrev pub gift : ℕ → ℕ → Done → List ℕ
gift p i d = if_so (eqb d.code 0 && eqb d.asked.kind 16 && eqb d.asked.x p && eqb d.asked.z i) d.asked.y

abbrev pub given : ℕ → ℕ → List Done → List ℕ
given p i [] = []
given p i (d ∷ ds) = gift p i d ++ given p i ds

-- the caller's parameters of block b: its first ones
abbrev pub callers : Form → ℕ → List ℕ
callers s b = take (s.owns b) (s.params b)

-- an accepted declaration of branch p, and an accepted definition in block p
abbrev pub declares : ℕ → Done → Bool
declares p d = eqb d.asked.kind 9 && eqb d.code 0 && eqb d.asked.y p

abbrev pub defines : ℕ → Done → Bool
defines p d = (eqb d.asked.kind 4 || eqb d.asked.kind 5) && eqb d.code 0 && eqb d.asked.z p

-- after an accepted declaration of branch p nothing is defined in block p
abbrev pub OnTime : List Done → Type 0
OnTime all = (p : ℕ) (ds es : List Done) (d e : Done) → all ≡ ds ++ d ∷ es → declares p d ≡ true → In e es → defines p e ≡ false

-- x was made, or answered to a use, among these acts
abbrev pub Had : ℕ → List Act → Type 0
Had x us = In (makes x) us ⊎ ((w : ℕ) × In (uses w x) us)

-- The suppositions of demand 3, of a finished session; and `NoneLate`, which every session meets.
module _ (t : State) where
  -- every block is sealed
  abbrev pub AllSealed : Type 0
  AllSealed = (b : ℕ) → b < t.graph.blocks → t.graph.sealed b ≡ true

  -- no branch goes into block 0
  abbrev pub NoneEnters0 : Type 0
  NoneEnters0 = (p : ℕ) → In 0 (t.graph.dests p) → ⊥

  -- every branch is declared to each of its destinations
  abbrev pub AllDeclared : Type 0
  AllDeclared = (p b : ℕ) → In b (t.graph.dests p) → In p (t.graph.preds b)

  -- nothing is defined in a block once its branch was declared
  abbrev pub NoneLate : Type 0
  NoneLate = OnTime t.done

  -- each definition takes a value made earlier in its own block, or answered to an earlier use there, or a caller's parameter of its own block
  abbrev pub OwnValues : Type 0
  OwnValues = (b v x : ℕ) (us bs : List Act) → acts b t.done ≡ us ++ gives v x ∷ bs → Had x us ⊎ In x (callers t.form b)

  -- each destination was given one argument for each caller's parameter of its block
  abbrev pub OwnCounts : Type 0
  OwnCounts = (p i : ℕ) → i < length (t.graph.dests p) → length (given p i t.done) ≡ t.form.owns (get_or (t.graph.dests p) i 0)

  -- each of them was made in the branching block, or answered to a use there, or is a caller's parameter of it
  abbrev pub OwnSources : Type 0
  OwnSources = (p i x : ℕ) → In x (given p i t.done) → Had x (acts p t.done) ⊎ In x (callers t.form p)

  abbrev pub OwnArgs : Type 0
  OwnArgs = OwnCounts × OwnSources

  pub record Supposed : Type 0 where
    pub all_sealed : AllSealed
    pub none_enters_0 : NoneEnters0
    pub all_declared : AllDeclared
    pub own_values : OwnValues
    pub own_args : OwnArgs

  -- what demand 3 needs of them: wherever the caller's arguments come from, their parameters hold them
  pub record Counted : Type 0 where
    pub all_sealed : AllSealed
    pub none_enters_0 : NoneEnters0
    pub all_declared : AllDeclared
    pub own_values : OwnValues
    pub own_counts : OwnCounts

-- Words that values hold, and the unset value of each type.
module _ (W : Type 0) (null : ℕ → W) (t : State) where
  abbrev pub res : ℕ → ℕ
  res x = resolve t.form x

  -- what the values hold, and what the variables have received
  pub record Mem : Type 0 where
    pub val : ℕ → W
    pub var : ℕ → W

  -- one act, where the made values of this visit hold what `fresh` says
  abbrev pub do_act : (ℕ → W) → Act → Mem → Mem
  do_act fresh (makes x) m = record { val = put x (fresh x) m.val; var = m.var }
  do_act fresh (gives v x) m = record { val = m.val; var = put v (m.val (res x)) m.var }
  do_act fresh (uses v x) m = m

  abbrev pub do_acts : (ℕ → W) → List Act → Mem → Mem
  do_acts fresh [] m = m
  do_acts fresh (a ∷ us) m = do_acts fresh us (do_act fresh a m)

  -- the parameters, the caller's and the builder's, take all arguments at once: each is read from the old values
  abbrev pub bring : List ℕ → List ℕ → (ℕ → W) → ℕ → W
  bring [] us old y = old y
  bring (x ∷ xs) [] old y = old y
  bring (x ∷ xs) (a ∷ us) old y = cond (eqb y x) (old (res a)) (bring xs us old y)

  -- the zeros of block b are set: what a value of this sort, type and home holds then, where it held w
  abbrev pub zeroed : ℕ → W → ℕ → ℕ → Sort → W
  zeroed b w type home nought = cond (eqb home b) (null type) w
  zeroed b w type home made = w
  zeroed b w type home param = w
  zeroed b w type home caller = w

  abbrev pub zeros_set : ℕ → (ℕ → W) → ℕ → W
  zeros_set b old y = let i = t.form.info y in zeroed b (old y) i.type i.home i.sort

  -- entering block b with the arguments as
  abbrev pub enter : ℕ → List ℕ → Mem → Mem
  enter b us m = record { val = zeros_set b (bring (t.form.params b) us m.val); var = m.var }

  -- A path from block 0: the blocks before, the block now, and what is held where its calls begin. `fresh n` is what the made values hold at the
  -- visit that comes after n others, `any` what a value not yet set holds, as do the caller's parameters of block 0.
  pub data At (fresh : ℕ → ℕ → W) (any : ℕ → W) : List ℕ → ℕ → Mem → Type 0 where
    start : At fresh any [] 0 (record { val = zeros_set 0 any; var = λ v. null (type_of t.graph v) })
    go : {bs : List ℕ} {p : ℕ} {m : Mem} (i : ℕ) → At fresh any bs p m → i < length (t.graph.dests p)
        → At fresh any (p ∷ bs) (get_or (t.graph.dests p) i 0)
        (enter (get_or (t.graph.dests p) i 0) (t.form.args p i) (do_acts (fresh (length bs)) (acts p t.done) m))

  -- each use's answer, aliases resolved, holds at that use what its variable last received, or its type's unset value
  abbrev pub Faithful : Type 0
  Faithful = (fresh : ℕ → ℕ → W) (any : ℕ → W) (bs : List ℕ) (b : ℕ) (m : Mem) → At fresh any bs b m
      → (before after : List Act) (v x : ℕ) → acts b t.done ≡ before ++ uses v x ∷ after
      → (do_acts (fresh (length bs)) before m).val (res x) ≡ (do_acts (fresh (length bs)) before m).var v

abbrev pub Fed : State → Type 0
Fed t = (p i : ℕ) → i < length (t.graph.dests p) → length (t.form.args p i) ≡ length (t.form.params (get_or (t.graph.dests p) i 0))

-- what demand 3 says of a finished session, whatever words values hold
abbrev pub Right : State → Type 1
Right t = ((W : Type 0) (null : ℕ → W) → Faithful W null t) × Fed t

-- Demand 3.
abbrev pub Demand3 : Type 1
Demand3 = (cs : List Call) → Supposed (session cs) → Right (session cs)
