-- Sealing over the cells: the pending variables are settled in order, each parameter found from the end of the block's list, where those to come still
-- stand in order; and the blocks in order, as what is left of them is what all of them are.
-- Assumes nothing.
use Prim.Native.Nat.{ℕ, suc, ◌+◌, ◌-◌, ◌<◌, ◌≤◌}
use mathlib.Core.Path.{◌≡◌, refl, sym, ap, ◌∙◌, subst}
use mathlib.Core.Bool.{Bool, true, false}
use mathlib.Core.List.{List, [], ◌∷◌, ◌++◌}
use native.Mathlib.Nat.{le_trans}
use native.Mathlib.Numerals.{add-one}
use native.Mathlib.Omega.{arith}
use lib.ListN.{length, get_or, take, drop, length-drop, length-map, get_or-map}
use lib.Seq.{split_at, take-suc, take_all}
use Rattle.definition.specs.Base.{put, up_from}
use Rattle.definition.specs.Form.{Graph, Form}
use Rattle.definition.specs.Read.{fill, read, depth, set_pending, settle_pending}
use Rattle.definition.specs.Session.{mark_sealed, seal_form, seal_each}
use Rattle.meaning.specs.Machine.{conf}
use Rattle.meaning.proofs.Inv.{frame, parts}
use Rattle.meaning.proofs.Lists.{snds, snds_length}
use Rattle.meaning.proofs.Maps.{put_same}
use Rattle.meaning.proofs.Mid.{Rest}
use Rattle.meaning.proofs.Rooms.{rooms_of}
use Rattle.meaning.proofs.Sealing.{idle}
use Rattle.meaning.proofs.Steady.{Steady, steady_rooms, steady_seal, sound_then, bounds_then, seal_rests}
use Rattle.layout.specs.declared.Counts.{Counts}
use Rattle.layout.specs.Layout.{Graphs, Shown}
use Rattle.graph.specs.Seen.{Seen, Shown as GraphShown}
use Rattle.form.specs.Can.{HasPending, Taken, Lists, NextParam}
use Rattle.ssa.specs.Use.{AtRest, CanFill, HasFilled, CanSeal, HasSealed, Marked}

-- ---- the pending variables of a block

settle_more : (g : Graph) (b : ℕ) (us ws : List (ℕ × ℕ)) (s : Form) → settle_pending g b (us ++ ws) s ≡ settle_pending g b ws (settle_pending g b us s)
settle_more g b [] ws s = refl
settle_more g b (w ∷ us) ws s = settle_more g b us ws (fill (read (depth g) g w.0) g b w.1 s).1

-- the form when the first i of them are settled
abbrev pub settled : ℕ → Graph → Form → ℕ → Form
settled b g s i = settle_pending (mark_sealed g b) b (take i (s.pending b)) (set_pending b [] s)

-- The list has the variables of all n, in order, and the first k of them are settled.
pub record Settling (gl fl wl list : List ℕ) (c : Counts) (b n k : ℕ) (g : Graph) (s : Form) : Type 0 where
  pub graph : Graphs gl c (mark_sealed g b)
  pub shown : Shown fl wl c (conf [] [] (settled b g s k))
  pub steady : Steady g s
  pub known : b < g.blocks
  pub unsealed : g.sealed b ≡ false
  pub whole : length list ≡ n
  pub lists : Lists list b s

-- the marked cells show a graph still
pub sealed_seen : {gl fl wl gl₁ : List ℕ} {c : Counts} {b : ℕ} {g : Graph} {s : Form} → CanSeal gl fl wl c b g s → g.sealed b ≡ false
    → GraphShown gl₁ (mark_sealed g b) → Seen gl₁ (mark_sealed g b)
sealed_seen {b = b} {g = g} {s = s} h e k = record {
  cells = k;
  bounds = bounds_then g s h.rest.steady b h.known e;
  sound = sound_then g s h.rest.steady b h.known e;
}

module _ {gl fl wl : List ℕ} {c : Counts} {b : ℕ} {g : Graph} {s : Form} (h : Marked gl fl wl c b g s) where
  pub pending_can : HasPending fl b s
  pending_can = record {
    cells = h.shown.form.cells;
    known = le_trans h.known h.steady.bounds.few;
    few = (steady_rooms g s h.steady).waits b;
  }

  pub settling_all : {fl₁ list : List ℕ} {n : ℕ} → length list ≡ n → Taken fl₁ list b s → Settling gl fl₁ wl list c b n 0 g s
  settling_all long t = record {
    graph = h.graph;
    shown = record { form = record { cells = t.cells; next = h.shown.form.next }; work = h.shown.work };
    steady = h.steady;
    known = h.known;
    unsealed = h.unsealed;
    whole = long;
    lists = t.lists;
  }

module _ {gl fl wl list : List ℕ} {c : Counts} {b n k : ℕ} {g : Graph} {s : Form} (h : Settling gl fl wl list c b n k g s) where
  count_is : n ≡ length (s.pending b)
  count_is = sym h.whole ∙ ap length h.lists ∙ length-map (s.pending b) (λ w. w.0)

  module _ (more : k < length list) where
    abbrev w : ℕ × ℕ
    w = get_or (s.pending b) k (0, 0)

    abbrev ws : List (ℕ × ℕ)
    ws = drop (suc k) (s.pending b)

    within : k < length (s.pending b)
    within = omega (arith, count_is, h.whole)

    rests : Rest (mark_sealed g b) (put b (w ∷ ws) idle) (suc (length ws)) (settled b g s k)
    rests = seal_rests g s h.steady b h.known h.unsealed (take k (s.pending b)) ws w (split_at (s.pending b) k (0, 0) within)

    sealed_now : (mark_sealed g b).sealed b ≡ true
    sealed_now = put_same b true g.sealed

    -- those before it are settled, and those after it are the last of the block's parameters
    pub next_param : NextParam fl b (n - k) (get_or (s.pending b) k (0, 0)).1 (settled b g s k)
    next_param = record {
      params = record {
        cells = h.shown.form.cells;
        known = le_trans h.known h.steady.bounds.few;
        few = (rooms_of (mark_sealed g b) (sound_then g s h.steady b h.known h.unsealed) (bounds_then g s h.steady b h.known h.unsealed)
            (put b (w ∷ ws) idle) (suc (length ws)) (settled b g s k) rests).params b;
      };
      before = rests.caller.params b ++ rests.kp b;
      after = snds ws;
      split = parts (mark_sealed g b) (frame ⊥ rests.caller) (settled b g s k) rests.kp (put b (w ∷ ws) idle) rests.inv w.0 b w.1 ws sealed_now (put_same b (w ∷ ws) idle);
      count = omega (arith, within, count_is, snds_length ws, length-drop (suc k) (s.pending b));
    }

    module _ {v x : ℕ} (ev : v ≡ get_or list k 0) (ex : (y : ℕ) → (t : Form) → NextParam fl b (n - k) y t → x ≡ y) where
      head_is : w ≡ (v, x)
      head_is =
          let var_is : v ≡ w.0 = ev ∙ ap (λ (xs : List ℕ). get_or xs k 0) h.lists ∙ get_or-map (λ (u : ℕ × ℕ). u.0) (s.pending b) k (0, 0) in
          let param_is : x ≡ w.1 = ex w.1 (settled b g s k) next_param in
          ap {B = ℕ × ℕ} (λ (y : ℕ). (y, w.1)) (sym var_is) ∙ ap {B = ℕ × ℕ} (λ (y : ℕ). (v, y)) (sym param_is)

      pub fill_can : CanFill gl fl wl c v x b (mark_sealed g b) (settled b g s k)
      fill_can = record {
        seen = record {
          cells = h.graph.cells;
          bounds = bounds_then g s h.steady b h.known h.unsealed;
          sound = sound_then g s h.steady b h.known h.unsealed;
        };
        call = h.graph.call;
        shown = h.shown;
        sealed = sealed_now;
        others = ws;
        rest = subst (λ (u : ℕ × ℕ). Rest (mark_sealed g b) (put b (u ∷ ws) idle) (suc (length ws)) (settled b g s k)) head_is rests;
      }

      one_more : (fill (read (depth (mark_sealed g b)) (mark_sealed g b) v) (mark_sealed g b) b x (settled b g s k)).1 ≡ settled b g s (suc k)
      one_more =
          let g' = mark_sealed g b in
          let one : take (suc k) (s.pending b) ≡ take k (s.pending b) ++ w ∷ [] = take-suc (s.pending b) k (0, 0) within in
          ap (λ (u : ℕ × ℕ). (fill (read (depth g') g' u.0) g' b u.1 (settled b g s k)).1) (sym head_is)
          ∙ sym (ap (λ (us : List (ℕ × ℕ)). settle_pending g' b us (set_pending b [] s)) one ∙ settle_more g' b (take k (s.pending b)) (w ∷ []) (set_pending b [] s))

      pub settling_next : {fl₁ wl₁ : List ℕ} {r : Counts} → ((g : Graph) → (s : Form) → CanFill gl fl wl c v x b g s → HasFilled fl₁ wl₁ c.call r v x b g s)
          → Settling gl fl₁ wl₁ list r b n (k + 1) g s
      settling_next {fl₁} {wl₁} {r} F =
          let f = F (mark_sealed g b) (settled b g s k) fill_can in
          rw add-one record {
            graph = record { cells = h.graph.cells; call = f.call ∙ h.graph.call };
            shown = subst (λ (t : Form). Shown fl₁ wl₁ r (conf [] [] t)) one_more f.shown;
            steady = h.steady;
            known = h.known;
            unsealed = h.unsealed;
            whole = h.whole;
            lists = h.lists;
          }

  pub settling_end : length list ≤ k → AtRest gl fl wl c (mark_sealed g b) (seal_form g s b)
  settling_end done = record {
    graph = h.graph;
    shown =
        let all : take k (s.pending b) ≡ s.pending b = take_all k (s.pending b) (omega (arith, count_is, h.whole)) in
        subst (λ (us : List (ℕ × ℕ)). Shown fl wl c (conf [] [] (settle_pending (mark_sealed g b) b us (set_pending b [] s)))) all h.shown;
    steady = steady_seal g s h.steady b h.known h.unsealed;
  }

-- ---- all blocks

-- From block b on they are to be sealed; in the end the state is r.
pub record ToSeal (gl fl wl : List ℕ) (c : Counts) (b n : ℕ) (r : Graph × Form) : Type 0 where
  pub graph : Graph
  pub form : Form
  pub rest : AtRest gl fl wl c graph form
  pub count : n ≡ graph.blocks
  pub all : seal_each (up_from b (n - b)) graph form ≡ r

module _ {gl fl wl : List ℕ} {c : Counts} {b n : ℕ} {r : Graph × Form} (h : ToSeal gl fl wl c b n r) where
  module _ (lt : b < n) where
    pub next_can : CanSeal gl fl wl c b h.graph h.form
    next_can = record { rest = h.rest; known = omega (arith, lt, h.count) }

    pub to_seal_next : {gl₁ fl₁ wl₁ : List ℕ} {d : Counts} → ((g : Graph) → (s : Form) → CanSeal gl fl wl c b g s → HasSealed gl₁ fl₁ wl₁ d b g s) → ToSeal gl₁ fl₁ wl₁ d (b + 1) n r
    to_seal_next {gl₁} {fl₁} {wl₁} {d} S = by (g.sealed b) refl (sym split ∙ h.all)
      where
        g : Graph
        g = h.graph

        s : Form
        s = h.form

        split : seal_each (up_from b (n - b)) h.graph h.form ≡ seal_each (b ∷ up_from (b + 1) (n - (b + 1))) h.graph h.form
        split =
            let k : n - b ≡ suc (n - (b + 1)) = omega (arith, lt) in
            ap (λ (m : ℕ). seal_each (up_from b m) h.graph h.form) k ∙ ap (λ (m : ℕ). seal_each (b ∷ up_from m (n - (b + 1))) h.graph h.form) (sym (add-one b))

        by : (z : Bool) → g.sealed b ≡ z
            → (elim z as (λ _. Graph × Form) [ true ↦ seal_each (up_from (b + 1) (n - (b + 1))) g s | false ↦ seal_each (up_from (b + 1) (n - (b + 1))) (mark_sealed g b) (seal_form g s b) ]) ≡ r
            → ToSeal gl₁ fl₁ wl₁ d (b + 1) n r
        by true e q = record { graph = g; form = s; rest = (S g s next_can).again e; count = h.count; all = q }
        by false e q = record { graph = mark_sealed g b; form = seal_form g s b; rest = (S g s next_can).first e; count = h.count; all = q }

  pub all_sealed : n ≤ b → AtRest gl fl wl c r.0 r.1
  all_sealed done =
      let k : n - b ≡ 0 = omega (arith, done) in
      let e : (h.graph, h.form) ≡ r = sym (ap (λ (m : ℕ). seal_each (up_from b m) h.graph h.form) k) ∙ h.all in
      subst (λ (q : Graph × Form). AtRest gl fl wl c q.0 q.1) e h.rest
