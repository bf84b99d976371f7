-- All that the code may rely on, in one place: between calls, at every moment of a use, and at every moment of a seal; it gathers what Rest and Rooms show.
-- Assumes nothing.
use Prim.Native.Nat.{ℕ, suc, ◌+◌, ◌<◌}
use mathlib.Core.Path.{◌≡◌, ◌∙◌}
use mathlib.Core.Bool.{true, false}
use mathlib.Core.List.{List, [], ◌∷◌, ◌++◌}
use lib.ListN.{length, length-append}
use native.Mathlib.Omega.{arith}
use Rattle.definition.specs.Base.{put}
use Rattle.definition.specs.Form.{Graph, Form, def}
use Rattle.definition.specs.Read.{read, depth, set_pending, settle_pending}
use Rattle.definition.specs.Session.{Call, State, session, mark_sealed, seal_form, Reply, no, ok, reply, after, step, run, empty}
use Rattle.meaning.specs.Machine.{conf, schedule, visit, turns}
use Rattle.meaning.specs.Rooms.{Rooms}
use Rattle.meaning.specs.Path.{In}
use Rattle.meaning.proofs.Maps.{put_same}
use Rattle.meaning.proofs.Reading.{Sound}
use Rattle.meaning.proofs.Sealing.{idle}
use Rattle.meaning.proofs.Ranges.{Bounds}
use Rattle.meaning.proofs.Rest.{read_rest, seal_rest, mark_rest, some_rest, bounds_sealed, at_head}
use Rattle.meaning.proofs.Mid.{Rest}
use Rattle.meaning.proofs.Sure.{sure, Sure}
use Rattle.meaning.proofs.Rooms.{rooms_of, Moment, moment_turn, use_moment, seal_moment, resting}

pub record Steady (g : Graph) (s : Form) : Type 0 where
  pub sound : Sound g
  pub bounds : Bounds g
  pub rest : Rest g idle 0 s

pub steady_of : (t : State) → Sure t → Steady t.graph t.form
steady_of t h = record { sound = h.whole.sound; bounds = h.safe.bounds; rest = resting t h }

pub steady : (cs : List Call) → Steady (session cs).graph (session cs).form
steady cs = steady_of (session cs) (sure cs)

module _ (g : Graph) (s : Form) (h : Steady g s) where
  pub steady_rooms : Rooms g s
  steady_rooms = rooms_of g h.sound h.bounds idle 0 s h.rest

  -- a use
  module _ (v : ℕ) (lv : v < length g.types) (b : ℕ) (lb : b < g.blocks) where
    pub steady_use : Steady g (read (depth g) g v b s).1
    steady_use = record { sound = h.sound; bounds = h.bounds; rest = (read_rest g h.sound h.bounds v lv b s lb h.rest).0 }

    pub during_use : (n : ℕ) → Moment g v idle 0 (turns n g v (visit g v b [] [] s (def s v b)))
    during_use n = moment_turn g h.sound h.bounds v lv idle 0 (visit g v b [] [] s (def s v b)) n (use_moment g h.sound h.bounds v lv b s lb h.rest)

  -- a seal
  module _ (b : ℕ) (lb : b < g.blocks) (unsealed : g.sealed b ≡ false) where
    abbrev pub g' : Graph
    g' = mark_sealed g b

    pub sound_then : Sound (mark_sealed g b)
    sound_then = h.sound

    pub bounds_then : Bounds (mark_sealed g b)
    bounds_then = bounds_sealed g h.sound h.bounds b lb unsealed

    pub steady_seal : Steady (mark_sealed g b) (seal_form g s b)
    steady_seal = record { sound = sound_then; bounds = bounds_then; rest = (seal_rest g h.sound h.bounds b lb unsealed s h.rest).0 }

    -- after the variables us are settled, before w and then ws
    module _ (us ws : List (ℕ × ℕ)) (w : ℕ × ℕ) (parts : s.pending b ≡ us ++ w ∷ ws) where
      abbrev pub then : Form
      then = settle_pending (mark_sealed g b) b us (set_pending b [] s)

      pub seal_rests : Rest g' (put b (w ∷ ws) idle) (suc (length ws)) then
      seal_rests = some_rest g' sound_then bounds_then b (put_same b true g.sealed) us (w ∷ ws) (set_pending b [] s)
          (rw parts at (mark_rest g h.sound h.bounds b lb unsealed s h.rest))

      pub known_then : w.0 < length g.types
      known_then = (seal_rests.inv.known w.0 b w.1 (at_head g' sound_then bounds_then b (put_same b true g.sealed) w ws (suc (length ws)) then seal_rests)).0

      pub during_seal : (n : ℕ) → Moment g' w.0 (put b ws idle) (length ws) (turns n g' w.0 (conf (schedule g' w.1 b []) [] then))
      during_seal n = moment_turn g' sound_then bounds_then w.0 known_then (put b ws idle) (length ws) (conf (schedule g' w.1 b []) [] then) n
          (seal_moment g' sound_then bounds_then b (put_same b true g.sealed) w ws then seal_rests)

-- a call more is done with each call
after_count : (t : State) (c : Call) (r : Reply) → length (after t c r).done ≡ suc (length t.done)
after_count t c (no k) = omega (arith, length-append t.done (record { asked = c; code = k; number = 0 } ∷ []))
after_count t c (ok n g s) = omega (arith, length-append t.done (record { asked = c; code = 0; number = n } ∷ []))

run_count : (cs : List Call) (t : State) → length (run t cs).done ≡ length t.done + length cs
run_count [] t = omega arith
run_count (c ∷ cs) t = omega (arith, run_count cs (step t c), after_count t c (reply t.graph t.form t.done c.x c.y c.z c.kind))

pub calls_count : (cs : List Call) → ((session cs).graph.call ≡ length cs) × (length (session cs).done ≡ length cs)
calls_count cs = let k = run_count cs empty in let d : length (session cs).done ≡ length cs = omega (arith, k) in ((sure cs).count ∙ d, d)

-- a zero was logged by a call
pub logged : (cs : List Call) (z : ℕ × ℕ) → In z (session cs).form.zeros → z.0 < length cs
logged cs z i = omega (arith, (sure cs).logged z i, (calls_count cs).0)
