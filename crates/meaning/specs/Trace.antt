-- A path, computed: the destinations taken, by their places, give what is held, and so what each use finds.
-- Assumes nothing.
use Rattle.std.specs.Prelude.{ℕ, Bool, true, ◌&&◌, List, [], ◌∷◌, ltb, length, get_or}
use Rattle.definition.specs.Read.{type_of}
use Rattle.definition.specs.Session.{State}
use Rattle.meaning.specs.Path.{Act, makes, gives, uses, acts, Mem, res, do_act, do_acts, zeros_set, enter}

module _ (W : Type 0) (null : ℕ → W) (fresh : ℕ → ℕ → W) (any : ℕ → W) (t : State) where
  -- where a path stands: the blocks before, the block now, and what is held where its calls begin
  pub record Here : Type 0 where
    pub before : List ℕ
    pub now : ℕ
    pub held : Mem W null t

  abbrev pub begin : Here
  begin = record { before = []; now = 0; held = record { val = zeros_set W null t 0 any; var = λ v. null (type_of t.graph v) } }

  -- on to the destination at place i
  abbrev pub on : ℕ → Here → Here
  on i h = let b = get_or (t.graph.dests h.now) i 0 in record {
    before = h.now ∷ h.before;
    now = b;
    held = enter W null t b (t.form.args h.now i) (do_acts W null t (fresh (length h.before)) (acts h.now t.done) h.held);
  }

  -- the places taken, in order
  abbrev pub trace : List ℕ → Here → Here
  trace [] h = h
  trace (i ∷ is) h = trace is (on i h)

  -- is there a destination at each place?
  abbrev pub there? : List ℕ → Here → Bool
  there? [] h = true
  there? (i ∷ is) h = ltb i (length (t.graph.dests h.now)) && there? is (on i h)

  -- each use among some acts: what its answer holds, aliases resolved, and what its variable last received
  abbrev pub found : (ℕ → W) → List Act → Mem W null t → List (W × W)
  found new [] m = []
  found new (makes x ∷ r) m = found new r (do_act W null t new (makes x) m)
  found new (gives v x ∷ r) m = found new r (do_act W null t new (gives v x) m)
  found new (uses v x ∷ r) m = (m.val (res W null t x), m.var v) ∷ found new r m

  -- what the uses of the block find to which these places lead
  abbrev pub finds : List ℕ → List (W × W)
  finds is = let h = trace is begin in found (fresh (length h.before)) (acts h.now t.done) h.held
