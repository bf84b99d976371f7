-- One turn leads from the state after i calls to the state after the next: its answer is told, its call is counted, and what is sure stays so.
-- Assumes nothing.
use Prim.Native.Nat.{ℕ, suc, ◌<◌}
use mathlib.Core.Path.{◌≡◌, refl}
use mathlib.Core.List.{List, [], ◌∷◌}
use native.Mathlib.Omega.{arith}
use lib.ListN.{length, get_or, length-append}
use Rattle.entity.specs.Limits.{limits}
use Rattle.definition.specs.Base.{◌∷ʳ◌}
use Rattle.definition.specs.Form.{Graph, Form}
use Rattle.definition.specs.Session.{Call, Done, State, Reply as Defined, no, ok, reply, tick, after, step}
use Rattle.meaning.proofs.Sure.{Sure, step_sure}
use Rattle.layout.specs.declared.Counts.{Counts}
use Rattle.layout.specs.Layout.{Piles}
use Rattle.reply.specs.declared.Reply.{Reply}
use Rattle.reply.specs.Replies.{Leaves}
use Rattle.calls.specs.Calls.{Replied}
use Rattle.turns.specs.declared.lists.Calls.{Calls}
use Rattle.turns.specs.declared.lists.Answers.{Answers}
use Rattle.turns.specs.Turns.{Told, Turned, Written, next_call, call_at}
use Rattle.turns.proofs.Told.{told_more}

-- the state after t with this graph and form, where the call is counted and has its answer
abbrev then : State → Graph → Form → Done → State
then t g s d = record { graph = tick g; form = s; done = t.done ∷ʳ d }

-- the call was the one after those that are done
counted : {gl fl : List ℕ} {c : Counts} {g : Graph} {s : Form} (t : State) (d : Done) → Leaves gl fl c g s → Sure (then t g s d) → c.call ≡ length t.done
counted t d l h = omega (arith, l.graph.call, h.count, length-append t.done (d ∷ []))

-- the answer r to the call at place i was written
module _ {asked : Calls} {a a' : Answers} {gl fl wl : List ℕ} {r : Reply} {i : ℕ} (w : Written a i r a') (t : State) where
  module _ (told : Told asked.kinds.now a.codes.now a.numbers.now t.done) (at : i ≡ length t.done) (lt : i < length asked.kinds.now)
      (q : length a.codes.now ≡ length asked.kinds.now) where
    one_more : {g : Graph} {s : Form} (d : Done) → d.asked.kind ≡ get_or asked.kinds.now i 0 → r.code ≡ d.code → r.number ≡ d.number
        → Leaves gl fl r.counts g s → Piles wl [] [] → Sure (then t g s d) → Turned asked a' gl fl wl (next_call r.counts) (suc i) (then t g s d)
    one_more d kind ec en l idle h = record {
      told = rw (w.codes, w.numbers, ec, en) (told_more told at lt (omega (arith, lt, q)) (omega (arith, lt, q, a.even)) d kind);
      between = record {
        showing = record {
          leaves = record {
            graph = record { cells = l.graph.cells; call = omega (arith, l.graph.call) };
            form = record { cells = l.form.cells; next = l.form.next };
            calls = l.calls;
            results = l.results;
          };
          sure = h;
        };
        idle = idle;
      };
      turns = omega (arith, at, length-append t.done (d ∷ []));
    }

    module _ (c : Call) (kind : c.kind ≡ get_or asked.kinds.now i 0) where
      turned_after : (d : Defined) → Replied gl fl wl r t.graph t.form d → Sure (after t c d)
          → (r.counts.call ≡ length t.done) × Turned asked a' gl fl wl (next_call r.counts) (suc i) (after t c d)
      turned_after (no k) p h =
          let d : Done = record { asked = c; code = k; number = 0 } in
          let q = p.replies in
          (counted t d q.leaves h, one_more d kind q.code q.number q.leaves p.idle h)
      turned_after (ok n g s) p h =
          let d : Done = record { asked = c; code = 0; number = n } in
          let q = p.replies in
          (counted t d q.leaves h, one_more d kind q.code q.number q.leaves p.idle h)

-- the definition's reply to the call at place i
abbrev said : Calls → ℕ → State → Defined
said asked i t =
    reply t.graph t.form t.done (get_or asked.xs.now i 0) (get_or asked.ys.now i 0) (get_or asked.zs.now i 0) (get_or asked.kinds.now i 0)

-- the turn at place i
module _ {asked : Calls} {a : Answers} {gl fl wl : List ℕ} {c : Counts} {i : ℕ} {t : State} (h : Turned asked a gl fl wl c i t)
    (lt : i < length asked.kinds.now) (q : length a.codes.now ≡ length asked.kinds.now) {gl' fl' wl' : List ℕ} {r : Reply}
    (p : Replied gl' fl' wl' r t.graph t.form (said asked i t)) {a' : Answers} (w : Written a i r a') where
  turned : (r.counts.call ≡ length t.done) × Turned asked a' gl' fl' wl' (next_call r.counts) (suc i) (step t (call_at asked i))
  turned = turned_after w t h.told h.turns lt q (call_at asked i) refl (said asked i t) p (step_sure t (call_at asked i) h.between.showing.sure)

  pub turned_next : {d : Counts} → d ≡ next_call r.counts → Turned asked a' gl' fl' wl' d (suc i) (step t (call_at asked i))
  turned_next e = rw e turned.1

  pub call_small : r.counts.call < limits.calls
  call_small = omega (arith, turned.0, h.turns, lt, asked.fit.few)
