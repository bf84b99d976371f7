-- What holds at every moment of a run of the machine, on every form: the invariant without edges, ranges, and room. Each turn keeps it, as reading and
-- settling do. Assumes nothing.
use Prim.Native.Nat.{ℕ, zero, suc, ◌+◌, ◌<◌}
use mathlib.Core.Path.{◌≡◌, refl, sym, ap, ◌∙◌, subst}
use mathlib.Core.Logic.{◌≢◌, ◌⊎◌, inl, inr}
use mathlib.Core.Bool.{Bool, true, false}
use mathlib.Core.Option.{Option, none, some}
use mathlib.Core.List.{List, [], ◌∷◌, ◌++◌, map, reverse}
use lib.ListN.{length-take, length-drop, length, take, drop, length-append, length-reverse}
use native.Mathlib.Omega.{arith}
use native.Mathlib.Nat.{le_trans}
use Rattle.definition.specs.Base.{put, before, without}
use Rattle.definition.specs.Form.{with_entry, Graph, Form, def}
use Rattle.definition.specs.Read.{mark, new_param, walk, settle, resolve}
use Rattle.meaning.specs.Machine.{Task, look, finish, Conf, conf, open_param, find, visit, settle_top, turn, turns}
use Rattle.meaning.specs.Path.{In}
use Rattle.meaning.proofs.Maps.{same?, put_same, put_other, false_true, put_put, put_id}
use Rattle.meaning.proofs.Lists.{in_cons, take_in, reverse_in, drop_in, snds}
use Rattle.meaning.proofs.Inv.{pending, Inv, pending_par, built_in, Work, Callers, Frame, frame}
use Rattle.meaning.proofs.Growing.{grown}
use Rattle.meaning.proofs.Settle.{Settled, settled}
use Rattle.meaning.proofs.Reading.{Sound, Busy, busy_grow, Trail, walked, Begun, met_marked, Walked, begun_waiting, begun_working}
use Rattle.meaning.proofs.Lacking.{mark_somes, settle_somes, param_somes}
use Rattle.meaning.proofs.Machine.{Goes, there, on}
use Rattle.meaning.proofs.Load.{waiting, waiting_put, Added, Load, load_new, settle_adds, load_same, load_settle}
use Rattle.meaning.proofs.Ranges.{Bounds, Ranged, def_below, mark_is, mark_ranged, settle_ranged, grown_ranged}

-- how many parameters the stack is to settle, and k others
abbrev pub finishes : List Task → ℕ → ℕ
finishes [] k = k
finishes (look p ∷ ts) k = finishes ts k
finishes (finish x b ∷ ts) k = suc (finishes ts k)

-- the parameters of v at work: those that the stack is to settle, before those that later
abbrev pub at_work : ℕ → List Task → Work → ℕ → List (ℕ × ℕ)
at_work v [] later = later
at_work v (look p ∷ ts) later = at_work v ts later
at_work v (finish x b ∷ ts) later = put b ((v, x) ∷ at_work v ts later b) (at_work v ts later)

-- the invariant without edges, ranges, and room, where op is at work and k of it are to be settled
pub record Rest (g : Graph) (op : Work) (k : ℕ) (s : Form) : Type 0 where
  pub caller : Callers
  pub kp : ℕ → List ℕ
  pub inv : Inv g (frame ⊥ caller) s kp op
  pub ranged : Ranged g s
  pub load : Load s k

module _ (g : Graph) where
  -- a block to look at is there, a block to settle in is sealed
  abbrev pub Sane : List Task → Type 0
  Sane [] = Unit {0}
  Sane (look p ∷ ts) = (p < g.blocks) × Sane ts
  Sane (finish x b ∷ ts) = (g.sealed b ≡ true) × Sane ts

  -- n results are there, and each settling finds its own
  abbrev pub Fits : List Task → ℕ → Type 0
  Fits [] n = Unit {0}
  Fits (look p ∷ ts) n = Fits ts (suc n)
  Fits (finish x b ∷ ts) n = (m : ℕ) × (n ≡ length (g.preds b) + m) × Fits ts (suc m)

module _ (g : Graph) (v : ℕ) (later : Work) (k : ℕ) where
  pub record Mid (ts : List Task) (n : ℕ) (s : Form) : Type 0 where
    pub rest : Rest g (at_work v ts later) (finishes ts k) s
    pub busy : Busy g v s (at_work v ts later)
    pub sane : Sane g ts
    pub fits : Fits g ts n

  abbrev pub Now : Conf → Type 0
  Now c = Mid c.tasks (length c.results) c.form × ((r : ℕ) → In r c.results → r < c.form.next)

  -- the parameter to settle next
  module _ (x b : ℕ) (ts : List Task) (n : ℕ) (s : Form) (h : Mid (finish x b ∷ ts) n s) where
    pub at_top : In (v, x) (pending g s (at_work v (finish x b ∷ ts) later) b)
    at_top = rw (h.sane.0, put_same b ((v, x) ∷ at_work v ts later b) (at_work v ts later)) (inl refl)

    pub top_built : In x (h.rest.kp b ++ snds (pending g s (at_work v (finish x b ∷ ts) later) b))
    top_built = pending_par g (frame ⊥ h.rest.caller) s h.rest.kp (at_work v (finish x b ∷ ts) later) h.rest.inv v b x at_top

    pub top_param : In x (s.params b)
    top_param = built_in g (frame ⊥ h.rest.caller) s h.rest.kp (at_work v (finish x b ∷ ts) later) h.rest.inv b x top_built

  pub looks_on : (ps : List ℕ) (ts : List Task) (n : ℕ) (s : Form) → ((p : ℕ) → In p ps → p < g.blocks) → Mid ts (length ps + n) s
      → Mid (map look ps ++ ts) n s
  looks_on [] ts n s lt h = let e : 0 + n ≡ n = omega arith in subst (λ (j : ℕ). Mid ts j s) e h
  looks_on (p ∷ ps) ts n s lt h =
      let e : suc (length ps) + n ≡ length ps + suc n = omega arith in
      let r = looks_on ps ts (suc n) s (λ q i. lt q (inr i)) (subst (λ (j : ℕ). Mid ts j s) e h) in
      record { rest = r.rest; busy = r.busy; sane = (lt p (inl refl), r.sane); fits = r.fits }

module _ (g : Graph) (G : Sound g) (B : Bounds g) (v : ℕ) (lv : v < length g.types) (later : Work) (k : ℕ) where
  -- looking at p
  module _ (p : ℕ) (ts : List Task) (rs : List ℕ) (s : Form) (lp : p < g.blocks) (h : Mid g v later k ts (suc (length rs)) s)
      (low : (r : ℕ) → In r rs → r < s.next) where
    abbrev op : Work
    op = at_work v ts later

    abbrev F : Frame
    F = frame ⊥ h.rest.caller

    met_now : (over : List ℕ) (c x : ℕ) → Trail g v s p over c → def s v c ≡ some x → Now g v later k (conf ts (x ∷ rs) (mark v x over s))
    met_now over c x tr e =
        let m = met_marked g G v lv F p s h.rest.kp op h.rest.inv over c tr x e in
        let t = mark v x over s in
        let lx = def_below g s h.rest.ranged v c x e in
        let q = mark_is v x over s in
        let load = load_same s t (mark_somes v x over s) (ap (λ (f : Form). f.makes) q) (finishes ts k) (ap (λ (f : Form). f.next) q) (ap (λ (f : Form). f.zeros) q)
        (ap (λ (f : Form). f.pending) q) h.rest.load in (
          record {
            rest = record {
              caller = h.rest.caller;
              kp = h.rest.kp;
              inv = m.inv;
              ranged = mark_ranged g s h.rest.ranged v x over lx
                  m.grow;
              load = load;
            };
            busy = busy_grow g v s t op m.grow h.busy;
            sane = h.sane;
            fits = h.fits;
          },
          in_cons x rs (le_trans lx m.grow.more) (λ r i. le_trans (low r i) m.grow.more),
        )

    module _ (over : List ℕ) (c : ℕ) (tr : Trail g v s p over c) (lc : c < g.blocks) (lack : def s v c ≡ none) where
      abbrev x : ℕ
      x = s.next

      -- with a new parameter, where ws waits and op' is at work
      module _ (ws op' : Work) (quiet : (b : ℕ) → g.sealed b ≡ true → ws b ≡ [])
          (m : Begun g v F s h.rest.kp op' p c ws (mark v s.next (before c over) (grown g s v c ws))) where
        abbrev s₁ : Form
        s₁ = grown g s v c ws

        abbrev s₂ : Form
        s₂ = mark v x (before c over) s₁

        is : s₂ ≡ with_entry s₁ s₂.entry
        is = mark_is v x (before c over) s₁

        set_next : s₂.next ≡ suc s.next
        set_next = ap (λ (f : Form). f.next) is

        set_rest : (k' : ℕ) → waiting ws + k' ≡ suc (waiting s.pending + finishes ts k) → Rest g op' k' s₂
        set_rest k' e = record {
          caller = h.rest.caller;
          kp = h.rest.kp;
          inv = m.inv;
          ranged = mark_ranged g s₁ (grown_ranged g s h.rest.ranged v c ws lv lc (B.typed v lv) (h.rest.inv.aliased.fresh s.next (omega arith)) m.grew quiet)
              v x (before c over) (omega arith) m.set;
          load = load_new s s₂ (λ w d o. mark_somes v x (before c over) s₁ w d (param_somes g v c s w d o)) (ap (λ (f : Form). f.makes) is) (finishes ts k) k' v c
              (le_trans lv B.vars) (le_trans lc B.few) lack (x, m.there) set_next (ap (λ (f : Form). f.zeros) is) (ap (λ (f : Form). waiting f.pending + k') is ∙ e) h.rest.load;
        }

      open_now : (z : Bool) → g.sealed c ≡ z → Now g v later k (open_param g v c x (before c over) ts rs (new_param g v c s) z)
      open_now false z =
          let ws = put c (s.pending c ++ (v, x) ∷ []) s.pending in
          let m = begun_waiting g G v lv F p s h.rest.kp op h.rest.inv over c tr h.busy lc lack z in
          let more = waiting_put s.pending c (s.pending c ++ (v, x) ∷ []) (le_trans lc B.few) in (
            record {
              rest = set_rest ws op quiet m (finishes ts k)
                  (omega (arith, more, length-append (s.pending c) ((v, x) ∷ [])));
              busy = m.busy;
              sane = h.sane;
              fits = h.fits;
            },
            in_cons x rs (omega (arith, set_next ws op quiet m)) (λ r i. omega (arith, low r i, set_next ws op quiet m)),
          )
        where
          quiet : (b : ℕ) → g.sealed b ≡ true → put c (s.pending c ++ (v, s.next) ∷ []) s.pending b ≡ []
          quiet b e = put_other c (s.pending c ++ (v, x) ∷ []) s.pending b (λ q. false_true z (rw q at e)) ∙ h.rest.ranged.still b e
      open_now true z =
          let op' = put c ((v, x) ∷ op c) op in
          let m = begun_working g G v lv F p s h.rest.kp op h.rest.inv over c tr h.busy lc lack z in
          let still = h.rest.ranged.still in (
            looks_on g v later k (g.preds c) (finish x c ∷ ts) (length rs) (mark v x (before c over) (new_param g v c s)) (λ q i. G.range c q i)
                (record { rest = set_rest s.pending op' still m (suc (finishes ts k)) (omega arith); busy = m.busy; sane = (z, h.sane); fits = (length rs, refl, h.fits) }),
            λ r i. omega (arith, low r i, set_next s.pending op' still m),
          )

    pub visit_now : Now g v later k (visit g v p ts rs s (def s v p))
    visit_now = by (def s v p) refl
      where
        past : (over : List ℕ) (c : ℕ) (m : Option ℕ) → Walked g v s p (record { passed = over; end = c; met = m })
            → Now g v later k (find g v ts rs s over c m)
        past over c (some x) y = met_now over c x y.trail (y.met x refl)
        past over c none y = open_now over c y.trail y.low (y.unmet refl) (g.sealed c) refl

        by : (d : Option ℕ) → def s v p ≡ d → Now g v later k (visit g v p ts rs s d)
        by (some x) e = (h, in_cons x rs (def_below g s h.rest.ranged v p x e) low)
        by none e =
            let w = walk (suc g.blocks) g s v [] p in
            past w.passed w.end w.met (walked g G v (suc g.blocks) s [] p lp e)

  -- settling the parameter x of b
  module _ (x b : ℕ) (ts : List Task) (rs : List ℕ) (s : Form) (h : Mid g v later k (finish x b ∷ ts) (length rs) s)
      (low : (r : ℕ) → In r rs → r < s.next) where
    abbrev op₂ : Work
    op₂ = at_work v ts later

    abbrev F₂ : Frame
    F₂ = frame ⊥ h.rest.caller

    abbrev n₂ : ℕ
    n₂ = length (g.preds b)

    abbrev qs : List ℕ
    qs = reverse (take n₂ rs)

    abbrev t : Form
    t = (settle g b x qs s).1

    settle_now : Now g v later k (settle_top g x b ts rs s)
    settle_now = (
      record {
        rest = record {
          caller = h.rest.caller;
          kp = d.kp;
          inv = subst (λ (f : Work). Inv g F₂ t d.kp f) (put_put b (op₂ b) ((v, x) ∷ op₂ b) op₂ ∙ put_id b op₂) d.inv;
          ranged = rng.0;
          load = load_settle s t (settle_somes g b x qs s left) adds.makes (finishes ts k) adds.next adds.zeros adds.pending h.rest.load;
        };
        busy = λ c e. busy c (same? c b) (h.busy c e);
        sane = h.sane.1;
        fits = subst (λ (j : ℕ). Fits g ts (suc j)) (omega (arith, length-drop n₂ rs, h.fits.1)) h.fits.2;
      },
      in_cons (settle g b x qs s).0 (drop n₂ rs) rng.1 (λ r i. le_trans (low r (drop_in n₂ rs r i)) d.grow.more),
    )
      where
        left : List ℕ
        left = without x (map (resolve s) (reverse (take (length (g.preds b)) rs)))

        adds : Added s (settle g b x (reverse (take (length (g.preds b)) rs)) s).1
        adds = settle_adds g b x qs s left

        d : Settled g F₂ s (put b (op₂ b) (put b ((v, x) ∷ op₂ b) op₂)) x (settle g b x (reverse (take (length (g.preds b)) rs)) s)
        d = settled g F₂ s h.rest.kp (put b ((v, x) ∷ op₂ b) op₂) h.rest.inv v b x (op₂ b) h.sane.0 (put_same b ((v, x) ∷ op₂ b) op₂) qs
            (omega (arith, length-reverse (take n₂ rs), length-take n₂ rs, h.fits.1)) (λ z. absurd z) (G.nodup b)

        rng : Ranged g (settle g b x (reverse (take (length (g.preds b)) rs)) s).1
            × ((settle g b x (reverse (take (length (g.preds b)) rs)) s).0 < (settle g b x (reverse (take (length (g.preds b)) rs)) s).1.next)
        rng = settle_ranged g s h.rest.ranged b x (B.shut b h.sane.0)
            (h.rest.inv.listed.pars b x (top_built g v later k x b ts (length rs) s h)) h.rest.inv.aliased.fresh qs
            (λ r i. low r (take_in n₂ rs r (reverse_in (take n₂ rs) r i)))

        busy : (c : ℕ) → (c ≡ b) ⊎ (c ≢ b) → (put b ((v, x) ∷ op₂ b) op₂ c ≡ []) ⊎ ((u : ℕ) × (s.entry v c ≡ some u))
            → (op₂ c ≡ []) ⊎ ((u : ℕ) × (t.entry v c ≡ some u))
        busy c q (inr j) = inr (j.0, d.grow.entry v c j.0 j.1)
        busy c (inl q) (inl j) = inr (x, d.grow.entry v c x (ap (s.entry v) q ∙ (h.rest.inv.pend v b x (at_top g v later k x b ts (length rs) s h)).0))
        busy c (inr n) (inl j) = inl (sym (put_other b ((v, x) ∷ op₂ b) op₂ c n) ∙ j)

  pub turn_now : (ts : List Task) (rs : List ℕ) (s : Form) → Now g v later k (conf ts rs s) → Now g v later k (turn g v ts rs s)
  turn_now [] rs s h = h
  turn_now (look p ∷ ts) rs s h =
      let m = h.0 in
      visit_now p ts rs s m.sane.0 (record { rest = m.rest; busy = m.busy; sane = m.sane.1; fits = m.fits }) h.1
  turn_now (finish x b ∷ ts) rs s h = settle_now x b ts rs s h.0 h.1

  -- at every moment of a run
  pub turns_now : (n : ℕ) (c : Conf) → Now g v later k c → Now g v later k (turns n g v c)
  turns_now zero c h = h
  turns_now (suc n) c h = turns_now n (turn g v c.tasks c.results c.form) (turn_now c.tasks c.results c.form h)

  pub goes_now : {c d : Conf} → Goes g v c d → Now g v later k c → Now g v later k d
  goes_now there h = h
  goes_now (on {c} {d} q) h = goes_now q (turn_now c.tasks c.results c.form h)
