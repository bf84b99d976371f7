-- What holds of the form after every list of calls holds at every moment of a run: both are at rest but for the parameters at work. Assumes nothing.
use Prim.Native.Nat.{ℕ}
use mathlib.Core.Path.{ap, ◌∙◌, subst}
use mathlib.Core.List.{List, ◌++◌}
use native.Mathlib.Nat.{le_trans}
use Rattle.definition.specs.Form.{Graph, Form, Info}
use Rattle.definition.specs.Session.{Call, session}
use Rattle.definition.specs.Resolve.{ends}
use Rattle.meaning.specs.Path.{In, callers}
use Rattle.meaning.specs.Holds.{Holds}
use Rattle.meaning.specs.Machine.{Conf}
use Rattle.meaning.proofs.Reading.{Sound}
use Rattle.meaning.proofs.Ranges.{Bounds}
use Rattle.meaning.proofs.Steady.{steady}
use Rattle.meaning.proofs.Sure.{from_then}
use Rattle.meaning.proofs.Sealing.{idle}
use Rattle.meaning.proofs.Rooms.{Moment, rooms_of, own_first_of}
use Rattle.meaning.proofs.Mid.{Rest, at_work, finishes}
use Rattle.meaning.proofs.Stored.{stored_of}
use Rattle.meaning.proofs.Causes.{once_of}
use Rattle.meaning.proofs.Chains.{chain_ends}
use Rattle.meaning.proofs.Enough.{enough_of}
use Rattle.meaning.proofs.Inv.{Work}

module _ (g : Graph) (G : Sound g) (B : Bounds g) where
  pub holds_of : (op : Work) (k : ℕ) (s : Form) → Rest g op k s → Holds g s
  holds_of op k s r = record {
    rooms = rooms_of g G B op k s r;
    stored = stored_of g G B op k s r;
    own = own_first_of g op k s r;
    once = once_of s g r.ranged.caused;
    chains = λ x l. ends (chain_ends s r.inv.aliased.tree r.ranged.valued.closed x l);
    enough = enough_of g G s r.inv.aliased.tree;
  }

  pub holds_now : (v : ℕ) (later : Work) (k : ℕ) (c : Conf) → Moment g v later k c → Holds g c.form
  holds_now v later k c m = holds_of (at_work v c.tasks later) (finishes c.tasks k) c.form m.now.0.rest

pub holds : (cs : List Call) → Holds (session cs).graph (session cs).form
holds cs = let h = steady cs in holds_of (session cs).graph h.sound h.bounds idle 0 (session cs).form h.rest

-- a caller's parameter stays one of its block, whatever calls follow
pub still_caller : (cs ds : List Call) (b x : ℕ) → In x (callers (session cs).form b) → In x (callers (session (cs ++ ds)).form b)
still_caller cs ds b x i =
    let k = (holds cs).own.first b x i in
    let l = from_then cs ds in
    let q = l.info x k.0 in
    subst (λ (c : ℕ). In x (callers (session (cs ++ ds)).form c)) (ap (λ (j : Info). j.home) q ∙ k.2)
    ((holds (cs ++ ds)).own.kept x (le_trans k.0 l.more) (ap (λ (j : Info). j.sort) q ∙ k.1))
