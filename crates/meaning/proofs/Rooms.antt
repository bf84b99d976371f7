-- The tables fit their rooms, after every list of calls and at every moment of a run: each parameter of a block stands for a variable of its own, and every
-- value and zero is paid for. Assumes nothing.
use Prim.Native.Nat.{ℕ, suc, ◌+◌, ◌<◌, ◌≤◌}
use mathlib.Core.Path.{◌≡◌, refl, sym, ap, ◌∙◌}
use mathlib.Core.Logic.{inl, inr}
use mathlib.Core.Bool.{true, ◌&&◌}
use mathlib.Core.Option.{Option, none, some}
use mathlib.Core.List.{List, [], ◌∷◌, ◌++◌, append-nil}
use lib.Dec.{ltb}
use lib.ListN.{length, get_or, take, drop, length-append, get_or-append}
use native.Mathlib.Omega.{arith}
use native.Mathlib.Nat.{le_trans}
use Rattle.entity.specs.Limits.{call_room, limits, result_room}
use Rattle.definition.specs.Base.{put, has}
use Rattle.definition.specs.Form.{Graph, Form, def}
use Rattle.definition.specs.Session.{Call, State, session}
use Rattle.meaning.specs.Machine.{Conf, conf, schedule, visit, turns}
use Rattle.meaning.specs.Path.{In, given, callers}
use Rattle.meaning.specs.Rooms.{Rooms}
use Rattle.meaning.specs.Own.{OwnFirst}
use Rattle.meaning.proofs.Maps.{put_same, put_other, false_true, some_none, ltb_yes, bool?, and_both, yes_ltb}
use Rattle.meaning.proofs.Lists.{nodup_both, snds, snds_length, has_in, in_has, in_cons, take_first, drop_first}
use Rattle.meaning.proofs.Inv.{pending, Work, caller_param}
use Rattle.meaning.proofs.Reading.{Sound}
use Rattle.meaning.proofs.Sealing.{idle}
use Rattle.meaning.proofs.Heights.{Within, run_within}
use Rattle.meaning.proofs.Fall.{use_within, seal_within}
use Rattle.meaning.proofs.Ranges.{Bounds}
use Rattle.meaning.proofs.Sums.{pigeon}
use Rattle.meaning.proofs.Load.{load_next}
use Rattle.meaning.proofs.Mid.{at_work, turns_now, visit_now, finishes, Now, Rest}
use Rattle.meaning.proofs.Rest.{seal_start, at_head}
use Rattle.meaning.proofs.Sure.{sure, Sure}
use Rattle.meaning.proofs.Lacking.{or_has}
use Rattle.meaning.proofs.Demand.{all_kept}

pub preds_room : (g : Graph) → Sound g → (b : ℕ) → length (g.preds b) ≤ g.blocks
preds_room g G b = pigeon some g.blocks (g.preds b) (G.nodup b) (λ p i. (p, G.range b p i, refl))

-- of one form, where op is at work
module _ (g : Graph) (op : Work) (k : ℕ) (s : Form) (r : Rest g op k s) where
  open r use {caller, kp, inv, ranged}

  -- the builder's parameters of b
  abbrev built : ℕ → List ℕ
  built b = kp b ++ snds (pending g s op b)

  -- a builder's parameter stands for a variable
  of_variable : (b x : ℕ) → In x (kp b ++ snds (pending g s op b)) → (w : ℕ) × (w < length g.types) × (s.entry w b ≡ some x)
  of_variable b x i =
      let p = inv.listed.pars b x i in
      let c = ranged.caused.param_of x p.below p.sort in
      (c.0, c.1, rw p.home at c.2)

  pub built_room : (b : ℕ) → length (kp b ++ snds (pending g s op b)) ≤ length g.types
  built_room b = pigeon (λ w. s.entry w b) (length g.types) (built b) (inv.listed.nodup b) (of_variable b)

  all_of : (b : ℕ) → length (s.params b) ≡ length (caller.params b) + length (kp b ++ snds (pending g s op b))
  all_of b = ap length (inv.listed.split b) ∙ length-append (caller.params b) (built b)

  pub params_room : (b : ℕ) → length (s.params b) ≤ length g.types + limits.own_params
  params_room b = omega (arith, all_of b, built_room b, inv.owned.few b)

  -- before a new parameter
  pub new_built_room : (v c : ℕ) → v < length g.types → s.entry v c ≡ none → suc (length (kp c ++ snds (pending g s op c))) ≤ length g.types
  new_built_room v c lv blank = pigeon entries (length g.types) (x ∷ built c) (λ i. omega (arith, (inv.listed.pars c x i).below), inv.listed.nodup c)
      (in_cons x (built c) (v, lv, put_same v (some x) (λ w. s.entry w c)) (λ y i.
      let w = of_variable c y i in
      (w.0, w.1, put_other v (some x) (λ w. s.entry w c) w.0 (λ q. some_none (rw q at w.2) blank) ∙ w.2)))
    where
      x : ℕ
      x = s.next

      entries : ℕ → Option ℕ
      entries = put v (some s.next) (λ w. s.entry w c)

  pub new_param_room : (v c : ℕ) → v < length g.types → s.entry v c ≡ none → suc (length (s.params c)) ≤ length g.types + limits.own_params
  new_param_room v c lv blank = omega (arith, all_of c, new_built_room v c lv blank, inv.owned.few c)

  parts : (b : ℕ) → length (kp b ++ snds (pending g s op b)) ≡ length (kp b) + length (pending g s op b)
  parts b = omega (arith, length-append (kp b) (snds (pending g s op b)), snds_length (pending g s op b))

  -- what waits is no more than the builder's parameters
  pub waits_room : (b : ℕ) → length (s.pending b) ≤ length (kp b ++ snds (pending g s op b))
  waits_room b = elim (bool? (g.sealed b)) [
    | inl e ↦ rw (ranged.still b e) (omega arith)
    | inr e ↦ let k : pending g s op b ≡ s.pending b = rw e in omega (arith, parts b, ap length k)
  ]

  pub kept_room : (b : ℕ) → length (kp b) ≤ length g.types
  kept_room b = omega (arith, parts b, built_room b)

  -- the caller's arguments
  given_room : (p i : ℕ) → length (caller.args p i) ≤ limits.own_params
  given_room p i = le_trans (inv.passed.short p i) (inv.owned.few (get_or (g.dests p) i 0))

  pub args_room : (p i : ℕ) → length (s.args p i) ≤ length g.types + limits.own_params
  args_room p i =
      let d = get_or (g.dests p) i 0 in elim (bool? (ltb i (length (g.dests p)) && g.sealed d && has p (g.preds d))) [
        | inl e ↦ let y = and_both (ltb i (length (g.dests p)) && g.sealed d) (has p (g.preds d)) e in
            let z = and_both (ltb i (length (g.dests p))) (g.sealed d) y.0 in
            let f = inv.passed.fed p i (ltb_yes i (length (g.dests p)) z.0) z.1 (in_has p (g.preds d) y.1) in
            omega (arith, ap length f.1, length-append (caller.args p i) f.0, f.2, kept_room d, given_room p i)
        | inr e ↦ rw (inv.passed.unfed p i (λ l z j. false_true e (rw (yes_ltb i (length (g.dests p)) l, z, has_in p (g.preds d) j) refl)))
            (omega (arith, given_room p i))
      ]

  -- before the arguments of a parameter that is kept
  pub feed_room : (b v x : ℕ) (ws : List (ℕ × ℕ)) → g.sealed b ≡ true → op b ≡ (v, x) ∷ ws → (p i : ℕ) → In p (g.preds b)
      → i < length (g.dests p)
      → get_or (g.dests p) i 0 ≡ b → suc (length (s.args p i)) ≤ length g.types + limits.own_params
  feed_room b v x ws seal at p i ip lt q =
      let k : pending g s op b ≡ (v, x) ∷ ws = rw seal at in
      let f = inv.passed.fed p i lt (rw q seal) (rw q ip) in
      omega (
        arith,
        ap length f.1,
        length-append (caller.args p i) f.0,
        f.2,
        ap
            (λ (c : ℕ). length (kp c)) q,
        parts b,
        ap length k,
        built_room b,
        given_room p i,
      )

  pub placed_room : length s.placed ≤ g.blocks
  placed_room = pigeon some g.blocks s.placed ranged.logs.once (λ b i. (b, ranged.logs.within b i, refl))

pub rooms_of : (g : Graph) → Sound g → Bounds g → (op : Work) (k : ℕ) (s : Form) → Rest g op k s → Rooms g s
rooms_of g G B op k s r =
    let n = load_next s k r.load in
    record {
      blocks = B.few;
      variables = B.vars;
      made = r.load.made;
      values = omega (arith, n.0);
      zeros = omega (arith, n.1);
      params = λ b. omega (arith, params_room g op k s r b, B.vars);
      args = λ p i. omega (arith, args_room g op k s r p i, B.vars);
      waits = λ b. le_trans (waits_room g op k s r b) (le_trans (built_room g op k s r b) B.vars);
      preds = λ b. le_trans (preds_room g G b) B.few;
      dests = B.dests;
      placed = le_trans (placed_room g op k s r) B.few;
    }

-- a session is at rest between calls
pub resting : (t : State) → Sure t → Rest t.graph idle 0 t.form
resting t h = record { caller = h.whole.caller; kp = h.whole.kp; inv = h.whole.inv; ranged = h.safe.ranged; load = h.safe.load }

-- after every list of calls
pub rooms : (cs : List Call) → Rooms (session cs).graph (session cs).form
rooms cs = let h = sure cs in rooms_of (session cs).graph h.whole.sound h.safe.bounds idle 0 (session cs).form (resting (session cs) h)

-- each destination of a declared predecessor of a sealed block has the caller's arguments, and one for each of the builder's parameters
pub fed_always : (cs : List Call) (p i : ℕ) → let g = (session cs).graph in
    let s = (session cs).form in
    let b = get_or (g.dests p) i 0 in
    i < length (g.dests p) → g.sealed b ≡ true → In p (g.preds b)
    → length (s.args p i) + s.owns b ≡ length (given p i (session cs).done) + length (s.params b)
fed_always cs p i lt z ip =
    let h = (sure cs).whole in
    let b = get_or ((session cs).graph.dests p) i 0 in
    let f = h.inv.passed.fed p i lt z ip in
    omega (
      arith,
      ap length f.1,
      length-append (h.caller.args p i) f.0,
      f.2,
      ap length (h.gifts p i),
      ap length (all_kept ⊥ (session cs) h b z),
      length-append (h.caller.params b) (h.kp b),
      h.inv.owned.count b,
    )

-- the caller's arguments stand first, no more than the block has caller's parameters
pub given_first : (cs : List Call) (p i : ℕ) → (r : List ℕ) × ((session cs).form.args p i ≡ given p i (session cs).done ++ r)
given_first cs p i =
    let g = (session cs).graph in
    let d = get_or (g.dests p) i 0 in
    let h = (sure cs).whole in elim (bool? (ltb i (length (g.dests p)) && g.sealed d && has p (g.preds d))) [
      | inl e ↦ let y = and_both (ltb i (length (g.dests p)) && g.sealed d) (has p (g.preds d)) e in
          let z = and_both (ltb i (length (g.dests p))) (g.sealed d) y.0 in
          let f = h.inv.passed.fed p i (ltb_yes i (length (g.dests p)) z.0) z.1 (in_has p (g.preds d) y.1) in
          (f.0, f.1 ∙ ap (λ (l : List ℕ). l ++ f.0) (h.gifts p i))
      | inr e ↦ (
        [],
        h.inv.passed.unfed p i (λ l z j. false_true e (rw (yes_ltb i (length (g.dests p)) l, z, has_in p (g.preds d) j) refl)) ∙ h.gifts p i
            ∙ sym (append-nil (given p i (session cs).done)),
      )
    ]

pub given_few : (cs : List Call) (p i : ℕ) → length (given p i (session cs).done) ≤ (session cs).form.owns (get_or ((session cs).graph.dests p) i 0)
given_few cs p i =
    let h = (sure cs).whole in
    omega (arith, ap length (h.gifts p i), h.inv.passed.short p i, h.inv.owned.count (get_or ((session cs).graph.dests p) i 0))

-- each has the type of the caller's parameter in its place
pub given_typed : (cs : List Call) (p i j : ℕ) → let s = (session cs).form in
    j < length (given p i (session cs).done)
    → (s.info (get_or (s.args p i) j 0)).type ≡ (s.info (get_or (s.params (get_or ((session cs).graph.dests p) i 0)) j 0)).type
given_typed cs p i j l =
    let s = (session cs).form in
    let d = get_or ((session cs).graph.dests p) i 0 in
    let h = (sure cs).whole in
    let r = given_first cs p i in
    let lj : j < length (h.caller.args p i) = rw (sym (h.gifts p i)) at l in
    let built = h.kp d ++ snds (pending (session cs).graph s idle d) in
    let arg = ap (λ (u : List ℕ). get_or u j 0) r.1 ∙ get_or-append (given p i (session cs).done) r.0 0 j l
    ∙ ap (λ (u : List ℕ). get_or u j 0) (sym (h.gifts p i)) in
    let par = ap (λ (u : List ℕ). get_or u j 0) (h.inv.listed.split d)
    ∙ get_or-append (h.caller.params d) built 0 j (le_trans lj (h.inv.passed.short p i)) in
    ap (λ (y : ℕ). (s.info y).type) arg ∙ h.inv.gave.typed p i j lj ∙ ap (λ (y : ℕ). (s.info y).type) (sym par)

-- a caller's parameters stand first and stay
pub own_first_of : (g : Graph) (op : Work) (k : ℕ) (s : Form) → Rest g op k s → OwnFirst s
own_first_of g op k s r = record {
  count = λ b. ap length (are b) ∙ r.inv.owned.count b;
  few = λ b. omega (arith, r.inv.owned.few b, r.inv.owned.count b);
  first = λ b x i. r.inv.owned.each b x (rw (are b) at i);
  later = λ b x i. let p = r.inv.listed.pars b x (rw (others b) at i) in (p.below, p.sort, p.home);
  once = λ b. rw (r.inv.listed.split b) (nodup_both (r.caller.params b) (rest b) (r.inv.owned.once b) (r.inv.listed.nodup b)
      (λ x i j. caller_param (r.inv.owned.each b x i).1 (r.inv.listed.pars b x j).sort));
  kept = λ x l e. rw (are (s.info x).home) (r.inv.owned.all x l e);
}
  where
    rest : ℕ → List ℕ
    rest b = r.kp b ++ snds (pending g s op b)

    are : (b : ℕ) → callers s b ≡ r.caller.params b
    are b = ap (λ (n : ℕ). take n (s.params b)) (sym (r.inv.owned.count b)) ∙ ap (take (length (r.caller.params b))) (r.inv.listed.split b)
        ∙ take_first (r.caller.params b) (rest b)

    others : (b : ℕ) → drop (s.owns b) (s.params b) ≡ r.kp b ++ snds (pending g s op b)
    others b = ap (λ (n : ℕ). drop n (s.params b)) (sym (r.inv.owned.count b)) ∙ ap (drop (length (r.caller.params b))) (r.inv.listed.split b)
        ∙ drop_first (r.caller.params b) (rest b)

-- At a moment of a run for v, where `later` is at work in the next runs, k parameters.
pub record Moment (g : Graph) (v : ℕ) (later : Work) (k : ℕ) (c : Conf) : Type 0 where
  pub now : Now g v later k c
  pub rooms : Rooms g c.form
  pub tasks : length c.tasks ≤ call_room limits
  pub results : length c.results ≤ result_room limits
  pub within : Within g v (call_room limits) (result_room limits) c

module _ (g : Graph) (G : Sound g) (B : Bounds g) where
  moment : (v : ℕ) (later : Work) (k : ℕ) (c : Conf) → Now g v later k c → Within g v (call_room limits) (result_room limits) c
      → Moment g v later k c
  moment v later k c h w = record {
    now = h;
    rooms = rooms_of g G B (at_work v c.tasks later) (finishes c.tasks k) c.form h.0.rest;
    tasks = omega (arith, w.calls);
    results = omega (arith, w.both);
    within = w;
  }

  pub moment_turn : (v : ℕ) (lv : v < length g.types) (later : Work) (k : ℕ) (c : Conf) (n : ℕ) → Moment g v later k c
      → Moment g v later k (turns n g v c)
  moment_turn v lv later k c n m = moment v later k (turns n g v c) (turns_now g G B v lv later k n c m.now) (run_within g G v n (call_room limits) (result_room limits) c m.within)

  -- settling the first of the pending variables of b
  pub seal_moment : (b : ℕ) → g.sealed b ≡ true → (w : ℕ × ℕ) (ws : List (ℕ × ℕ)) (s : Form)
      → Rest g (put b (w ∷ ws) idle) (suc (length ws)) s
      → Moment g w.0 (put b ws idle) (length ws) (conf (schedule g w.1 b []) [] s)
  seal_moment b seal w ws s h = moment w.0 (put b ws idle) (length ws) (conf (schedule g w.1 b []) [] s) (seal_start g G B b seal w ws s h)
      (seal_within g G B w.0 w.1 b s (B.shut b seal) (or_has (s.own w.0 b) w.1 (at_head g G B b seal w ws (suc (length ws)) s h)))

  -- a use in b, from its first visit on
  pub use_moment : (v : ℕ) (lv : v < length g.types) (b : ℕ) (s : Form) → b < g.blocks → Rest g idle 0 s
      → Moment g v idle 0 (visit g v b [] [] s (def s v b))
  use_moment v lv b s lb h = moment v idle 0 (visit g v b [] [] s (def s v b))
      (visit_now g G B v lv idle 0 b [] [] s lb (record { rest = h; busy = λ c z. inl refl; sane = tt; fits = tt }) (λ r i. absurd i))
      (use_within g G B v b s lb)
