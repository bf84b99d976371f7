-- What the code of the machine needs at each turn: the turns lead where the run ends, each turn lowers a number, and there is room before
-- each cell is written. Assumes nothing.
use Prim.Native.Nat.{ℕ, zero, suc, ◌+◌, ◌<◌, ◌≤◌}
use mathlib.Core.Path.{◌≡◌, refl, sym, ap, ◌∙◌, subst}
use mathlib.Core.Bool.{true, false}
use mathlib.Core.List.{List, [], ◌∷◌, ◌++◌, append-nil}
use lib.ListN.{length, get_or, length-append}
use native.Mathlib.Omega.{arith}
use Rattle.entity.specs.Limits.{value_room, limits, param_room, zero_room}
use Rattle.definition.specs.Base.{put}
use Rattle.definition.specs.Form.{Graph, Form}
use Rattle.definition.specs.Session.{State}
use Rattle.meaning.specs.Machine.{Task, finish, Conf, conf, turn, turns}
use Rattle.meaning.specs.Path.{In}
use Rattle.meaning.proofs.Maps.{put_same}
use Rattle.meaning.proofs.Inv.{pending, Work}
use Rattle.meaning.proofs.Reading.{Sound}
use Rattle.meaning.proofs.Lists.{snds}
use Rattle.meaning.proofs.Sealing.{idle}
use Rattle.meaning.proofs.Machine.{Goes, there, on}
use Rattle.meaning.proofs.Heights.{Within, Low, run_within}
use Rattle.meaning.proofs.Fall.{left, turn_falls}
use Rattle.meaning.proofs.Ranges.{Bounds}
use Rattle.meaning.proofs.Load.{load_next}
use Rattle.meaning.proofs.Mid.{at_work, finishes, top_param, top_built}
use Rattle.meaning.proofs.Rooms.{Moment, feed_room}
use Rattle.meaning.proofs.Sure.{Sure}

-- room for a made value
pub make_room : (t : State) → Sure t → t.form.makes < limits.made → t.form.next < value_room limits
make_room t h l = omega (arith, h.safe.load.values, l)

-- room for a caller's parameter on b, where it is not refused: so far b has no others than the caller's
pub own_room : (t : State) → Sure t → (b : ℕ) → t.graph.sealed b ≡ false → t.form.pending b ≡ [] → t.form.owns b < limits.own_params
    → (length (t.form.params b) ≡ t.form.owns b) × (length (t.form.params b) < param_room limits)
own_room t h b unsealed idle_b room =
    let w = h.whole in
    let none : w.kp b ++ snds (pending t.graph t.form idle b) ≡ [] = rw (w.inv.listed.bare b unsealed, unsealed, idle_b) refl in
    let n : length (t.form.params b) ≡ t.form.owns b =
    ap length (w.inv.listed.split b ∙ ap (λ (l : List ℕ). w.caller.params b ++ l) none ∙ append-nil (w.caller.params b)) ∙ w.inv.owned.count b in
    (n, omega (arith, n, room))

-- room for a caller's argument at a destination to d, where it is not refused, and a caller's parameter in its place
pub give_room : (t : State) → Sure t → (p i d : ℕ) → length (t.form.args p i) < t.form.owns d
    → (length (t.form.args p i) < param_room limits) × (length (t.form.args p i) < length (t.form.params d))
give_room t h p i d l =
    let w = h.whole in
    let n = w.inv.owned.count d in (
      omega (arith, l, n, w.inv.owned.few d),
      omega (arith, l, n, ap length (w.inv.listed.split d), length-append (w.caller.params d) (w.kp d ++ snds (pending t.graph t.form idle d))),
    )

module _ (g : Graph) (v : ℕ) where
  pub idle_turn : (c : Conf) → c.tasks ≡ [] → turn g v c.tasks c.results c.form ≡ c
  idle_turn c e = ap (λ (ts : List Task). turn g v ts c.results c.form) e ∙ ap (λ (ts : List Task). conf ts c.results c.form) (sym e)

  idle_turns : (n : ℕ) (c : Conf) → c.tasks ≡ [] → turns n g v c ≡ c
  idle_turns zero c e = refl
  idle_turns (suc n) c e = ap (turns n g v) (idle_turn c e) ∙ idle_turns n c e

  pub idle_goes : {c d : Conf} → Goes g v c d → c.tasks ≡ [] → d ≡ c
  idle_goes there e = refl
  idle_goes (on {c} {d} q) e = let k = idle_turn c e in idle_goes q (ap (λ (u : Conf). u.tasks) k ∙ e) ∙ k

module _ (g : Graph) (G : Sound g) (v : ℕ) where
  -- where a run ends, that many turns lead
  pub goes_turns : {c d : Conf} → Goes g v c d → d.tasks ≡ [] → (a b n : ℕ) → Within g v a b c → left g v c ≤ n → turns n g v c ≡ d
  goes_turns (there {c}) e a b n w l = idle_turns g v n c e
  goes_turns (on {c} {d} q) e a b n w l = by c.tasks refl n l (goes_turns q e a b)
    where
      by : (ts : List Task) → c.tasks ≡ ts → (n : ℕ) → left g v c ≤ n
          → ((m : ℕ) → Within g v a b (turn g v c.tasks c.results c.form) → left g v (turn g v c.tasks c.results c.form) ≤ m
          → turns m g v (turn g v c.tasks c.results c.form) ≡ d)
          → turns n g v c ≡ d
      by [] k m l below = idle_turns g v m c k ∙ sym (idle_goes g v (on q) k)
      by (t ∷ ts) k zero l below = absurd (omega (arith, l, ap length k))
      by (t ∷ ts) k (suc m) l below =
          let f = turn_falls g G v t ts c.results c.form (subst (λ (us : List Task). Low g us) k w.low) in
          let f' : left g v (turn g v c.tasks c.results c.form) < left g v c = subst (λ (us : List Task). left g v (turn g v us c.results c.form) < left g v (conf us c.results c.form)) (sym k) f in
          below m (run_within g G v 1 a b c w) (omega (arith, l, f'))

-- before settling the parameter x of b with the results rs
pub record Settles (g : Graph) (rs : List ℕ) (s : Form) (x b : ℕ) : Type 0 where
  pub block : b < g.blocks
  pub closed : g.sealed b ≡ true
  pub value : x < s.next
  pub param : In x (s.params b)
  pub taken : length (g.preds b) ≤ length rs
  pub next : s.next + 2 ≤ value_room limits
  pub zeros : length s.zeros < zero_room limits
  pub args : (p i : ℕ) → In p (g.preds b) → i < length (g.dests p) → get_or (g.dests p) i 0 ≡ b → length (s.args p i) < param_room limits

-- at one moment
module _ (g : Graph) (G : Sound g) (B : Bounds g) (v : ℕ) (lv : v < length g.types) (later : Work) (k : ℕ) (rs : List ℕ)
    (s : Form) where
  -- the number that falls
  pub falls : (t : Task) (ts : List Task) → Moment g v later k (conf (t ∷ ts) rs s)
      → left g v (turn g v (t ∷ ts) rs s) < left g v (conf (t ∷ ts) rs s)
  falls t ts m = turn_falls g G v t ts rs s m.within.low

  pub finish_room : (x b : ℕ) (ts : List Task) → Moment g v later k (conf (finish x b ∷ ts) rs s) → Settles g rs s x b
  finish_room x b ts m =
      let h = m.now.0 in
      let op = at_work v ts later in
      let a = load_next s (suc (finishes ts k)) h.rest.load in
      let i = top_param g v later k x b ts (length rs) s h in
      let j = top_built g v later k x b ts (length rs) s h in
      record {
        block = B.shut b h.sane.0;
        closed = h.sane.0;
        value = (h.rest.inv.listed.pars b x j).below;
        param = i;
        taken = omega (arith, h.fits.1);
        next = omega (arith, a.0);
        zeros = omega (arith, a.1);
        args = λ p j ip lt q.
            let f = feed_room g (put b ((v, x) ∷ op b) op) (suc (finishes ts k)) s h.rest b v x (op b) h.sane.0
            (put_same b ((v, x) ∷ op b) op) p j ip lt q in
            omega (arith, f, B.vars);
      }
