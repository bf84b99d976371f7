-- What a run of the machine does, after every list of calls: with each turn what is scheduled and could still be falls by one, and every moment of it is
-- known. Assumes nothing.
use Prim.Native.Nat.{ℕ, zero, suc, ◌+◌, ◌<◌, ◌≤◌}
use mathlib.Core.Path.{◌≡◌, refl, sym, subst}
use mathlib.Core.List.{List, [], ◌∷◌}
use lib.ListN.{length}
use native.Mathlib.Omega.{arith}
use native.Mathlib.Nat.{le_trans}
use Rattle.entity.specs.Limits.{limits, call_room, result_room}
use Rattle.definition.specs.Form.{Graph, Form, def}
use Rattle.definition.specs.Read.{Got, fill, read, depth, set_pending, settle_pending}
use Rattle.definition.specs.Session.{Call, session, mark_sealed, seal_each}
use Rattle.definition.specs.Base.{put}
use Rattle.meaning.specs.Machine.{Task, Conf, conf, schedule, visit, turn, turns}
use Rattle.meaning.specs.Path.{In}
use Rattle.meaning.specs.Turns.{top, taken, Run, Scheduled}
use Rattle.meaning.proofs.Reading.{Sound}
use Rattle.meaning.proofs.Sealing.{shallow, idle}
use Rattle.meaning.proofs.Machine.{Goes, there, on, does, fills}
use Rattle.meaning.proofs.Heights.{Within, Low, turn_within}
use Rattle.meaning.proofs.Fall.{left, turn_falls}
use Rattle.meaning.proofs.Rest.{each_rest}
use Rattle.meaning.proofs.Port.{idle_turn, goes_turns}
use Rattle.meaning.proofs.Steady.{Steady, steady, sound_then, during_use, during_seal, bounds_then}
use Rattle.meaning.proofs.Ranges.{Bounds}
use Rattle.meaning.proofs.Rooms.{Moment}
use Rattle.meaning.proofs.Holds.{holds_now}
use Rattle.meaning.proofs.Inv.{Work}

module _ (g : Graph) (v : ℕ) where
  -- a run that ends goes on from its first turn
  pub goes_on : {c d : Conf} → Goes g v c d → d.tasks ≡ [] → Goes g v (turn g v c.tasks c.results c.form) d
  goes_on (there {c}) e = subst (λ (u : Conf). Goes g v u c) (sym (idle_turn g v c e)) there
  goes_on (on q) e = q

module _ (g : Graph) (G : Sound g) (v : ℕ) where
  turn_left : (ts : List Task) (rs : List ℕ) (s : Form) → Low g ts → top ts + left g v (turn g v ts rs s) ≤ left g v (conf ts rs s)
  turn_left [] rs s l = omega arith
  turn_left (t ∷ ts) rs s l = omega (arith, turn_falls g G v t ts rs s l)

  taken_left : (n a b : ℕ) (c : Conf) → Within g v a b c → taken n g v c + left g v (turns n g v c) ≤ left g v c
  taken_left zero a b c w = omega arith
  taken_left (suc n) a b c w =
      let one = turn_left c.tasks c.results c.form w.low in
      let more = taken_left n a b (turn g v c.tasks c.results c.form) (turn_within g G v a b c.tasks c.results c.form w) in
      omega (arith, one, more)

module _ (g : Graph) (G : Sound g) (B : Bounds g) (v : ℕ) (rest : Work) (k : ℕ) where
  -- a run of which every moment is known, and which goes to r
  run_of : (c : Conf) (r : Got) → ((n : ℕ) → Moment g v rest k (turns n g v c)) → Goes g v c (conf [] (r.0 ∷ []) r.1) → Run g v c r
  run_of c r at q =
      let w = (at 0).within in
      record {
        calls = λ n. omega (arith, w.calls, taken_left g G v n (call_room limits) (result_room limits) c w);
        results = λ n. (at n).results;
        holds = λ n. holds_now g G B v rest k (turns n g v c) (at n);
        answer = λ n l. goes_turns g G v q refl (call_room limits) (result_room limits) n w (le_trans w.calls l);
      }

pub scheduled_of : (g : Graph) (s : Form) → Steady g s → Scheduled g s
scheduled_of g s h = record {
  of_use = λ v b lv lb. run_of g h.sound h.bounds v idle 0 (visit g v b [] [] s (def s v b)) (read (depth g) g v b s) (during_use g s h v lv b lb)
      (goes_on g v (does g h.sound v (depth g) b s lb (shallow v s g) [] []) refl);
  of_seal = λ b lb unsealed us ws w parts.
      let now = mark_sealed g b in
      let s' = settle_pending now b us (set_pending b [] s) in
      let G = sound_then g s h b lb unsealed in
      run_of now G (bounds_then g s h b lb unsealed) w.0 (put b ws idle) (length ws) (conf (schedule now w.1 b []) [] s') (fill (read (depth now) now w.0) now b w.1 s')
      (during_seal g s h b lb unsealed us ws w parts) (fills now G w.0 (depth now) b w.1 s' (shallow w.0 s' now) [] []);
}

pub scheduled : (cs : List Call) → Scheduled (session cs).graph (session cs).form
scheduled cs = scheduled_of (session cs).graph (session cs).form (steady cs)

-- and in `seal_all_blocks`, where the blocks bs come before
pub scheduled_all : (cs : List Call) (bs : List ℕ) → ((b : ℕ) → In b bs → b < (session cs).graph.blocks)
    → let r = seal_each bs (session cs).graph (session cs).form in Scheduled r.0 r.1
scheduled_all cs bs lt =
    let h = steady cs in
    let r = each_rest bs (session cs).graph (session cs).form lt h.sound h.bounds h.rest in
    scheduled_of _ _ (record { sound = r.sound; bounds = r.bounds; rest = r.rest })
