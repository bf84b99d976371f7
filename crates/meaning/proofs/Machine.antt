-- The stack machine does what the recursive reading does, on every form: by induction on the depth, as each level gives one more block a definition. Assumes
-- nothing.
use Prim.Native.Nat.{ℕ, zero, suc, ◌<◌}
use mathlib.Core.Path.{◌≡◌, refl, sym, ap, ◌∙◌, subst}
use mathlib.Core.Logic.{inl, inr}
use mathlib.Core.Bool.{Bool, true, false}
use mathlib.Core.Option.{Option, none, some}
use mathlib.Core.List.{List, [], ◌∷◌, ◌++◌, map, reverse, reverse_aux, reverse_aux-eq, reverse-reverse}
use lib.ListN.{length, take, drop, length-reverse}
use lib.Seq.{take_at, drop_at}
use native.Mathlib.Omega.{arith}
use native.Mathlib.Nat.{not-suc-le-zero}
use Rattle.definition.specs.Base.{before, without}
use Rattle.definition.specs.Form.{Graph, Form, def}
use Rattle.definition.specs.Read.{Got, mark, new_param, wait, walk, settle, resolve, read_all, fill, begin, read_past, read_on, read}
use Rattle.meaning.specs.Machine.{Task, look, finish, Conf, conf, schedule, open_param, find, visit, settle_top, turn}
use Rattle.meaning.specs.Path.{In}
use Rattle.meaning.proofs.Reading.{Sound, walked}
use Rattle.meaning.proofs.Lacking.{lacks, Somes, fewer, Has, settle_somes, mark_somes, param_somes, less, param_has}

-- some number of turns leads from one configuration to another
pub data Goes (g : Graph) (v : ℕ) : Conf → Conf → Type 0 where
  there : {c : Conf} → Goes g v c c
  on : {c d : Conf} → Goes g v (turn g v c.tasks c.results c.form) d → Goes g v c d

pub goes_trans : {g : Graph} {v : ℕ} {c d e : Conf} → Goes g v c d → Goes g v d e → Goes g v c e
goes_trans there q = q
goes_trans (on p) q = on (goes_trans p q)

-- the answer r on the stack of results
abbrev pub with_answer : List Task → List ℕ → Got → Conf
with_answer ts rs r = conf ts (r.0 ∷ rs) r.1

module _ (g : Graph) (v : ℕ) where
  -- rec leaves definitions recorded
  abbrev Leaves : (ℕ → Form → Got) → Type 0
  Leaves rec = (b : ℕ) (s : Form) → Somes s (rec b s).1

  all_somes : (rec : ℕ → Form → Got) → Leaves rec → (ps : List ℕ) (s : Form) → Somes s (read_all rec ps s).1
  all_somes rec R [] s w b h = h
  all_somes rec R (p ∷ ps) s w b h = all_somes rec R ps (rec p s).1 w b (R p s w b h)

  -- a new parameter on c, recorded in the blocks bs too
  abbrev opened : ℕ → List ℕ → Form → Form
  opened c bs s = mark v s.next bs (new_param g v c s)

  opened_somes : (c : ℕ) (bs : List ℕ) (s : Form) → Somes s (opened c bs s)
  opened_somes c bs s w b h = mark_somes v s.next bs (new_param g v c s) w b (param_somes g v c s w b h)

  past_somes : (rec : ℕ → Form → Got) → Leaves rec → (s : Form) (over : List ℕ) (c : ℕ) (m : Option ℕ)
      → Somes s (read_past rec g v s over c m).1
  past_somes rec R s over c (some x) w b h = mark_somes v x over s w b h
  past_somes rec R s over c none w b h = by (g.sealed c)
    where
      by : (z : Bool) → Has (def (begin rec g v c s.next (before c over) (new_param g v c s) z).1 w b)
      by true =
          let q = read_all rec (g.preds c) (opened c (before c over) s) in
          settle_somes g c s.next q.0 q.1 (without s.next (map (resolve q.1) q.0)) w b
          (all_somes rec R (g.preds c) (opened c (before c over) s) w b (opened_somes c (before c over) s w b h))
      by false = mark_somes v s.next (before c over) (wait v c s.next (new_param g v c s)) w b (param_somes g v c s w b h)

  read_somes : (n : ℕ) → Leaves (read n g v)
  read_somes zero b s w c h = h
  read_somes (suc n) b s w c h = by (def s v b) (read_somes n)
    where
      by : (d : Option ℕ) → Leaves (read n g v) → Has (def (read_on (read n g v) g v b s d).1 w c)
      by (some x) R = h
      by none R = let k = walk (suc g.blocks) g s v [] b in past_somes (read n g v) R s k.passed k.end k.met w c h

  -- settling takes the results from the stack
  top : (x b : ℕ) (ts : List Task) (qs rs : List ℕ) (s : Form) → length qs ≡ length (g.preds b)
      → settle_top g x b ts (reverse_aux qs rs) s ≡ with_answer ts rs (settle g b x qs s)
  top x b ts qs rs s e =
      let n = length (g.preds b) in
      let len : length (reverse qs) ≡ n = length-reverse qs ∙ e in
      let t : reverse (take n (reverse_aux qs rs)) ≡ qs = ap (λ (l : List ℕ). reverse (take n l)) (reverse_aux-eq qs rs) ∙ ap reverse (take_at (reverse qs) rs n len) ∙ reverse-reverse qs in
      let d : drop n (reverse_aux qs rs) ≡ rs = ap (drop n) (reverse_aux-eq qs rs) ∙ drop_at (reverse qs) rs n len in
      rw (t, d) refl

  -- the machine gets where rec does
  abbrev Does : ℕ → (ℕ → Form → Got) → Type 0
  Does n rec = (b : ℕ) (s : Form) → b < g.blocks → lacks v s g.blocks < n → (ts : List Task) (rs : List ℕ)
      → Goes g v (conf (look b ∷ ts) rs s) (with_answer ts rs (rec b s))

  module _ (n : ℕ) (rec : ℕ → Form → Got) (D : Does n rec) (R : Leaves rec) where
    all_does : (ps : List ℕ) → ((p : ℕ) → In p ps → p < g.blocks) → (s : Form) → lacks v s g.blocks < n → (ts : List Task) (rs : List ℕ)
        → Goes g v (conf (map look ps ++ ts) rs s) (conf ts (reverse_aux (read_all rec ps s).0 rs) (read_all rec ps s).1)
    all_does [] lt s l ts rs = there
    all_does (p ∷ ps) lt s l ts rs =
        goes_trans (D p s (lt p (inl refl)) l (map look ps ++ ts) rs)
        (all_does ps (λ q i. lt q (inr i)) (rec p s).1 (omega (arith, l, fewer v s (rec p s).1 (R p s) g.blocks)) ts ((rec p s).0 ∷ rs))

    all_length : (ps : List ℕ) (s : Form) → length (read_all rec ps s).0 ≡ length ps
    all_length [] s = refl
    all_length (p ∷ ps) s = ap suc (all_length ps (rec p s).1)

    fill_does : Sound g → (b x : ℕ) (s : Form) → lacks v s g.blocks < n → (ts : List Task) (rs : List ℕ)
        → Goes g v (conf (schedule g x b ts) rs s) (with_answer ts rs (fill rec g b x s))
    fill_does G b x s l ts rs =
        let q = read_all rec (g.preds b) s in
        goes_trans (all_does (g.preds b) (λ p i. G.range b p i) s l (finish x b ∷ ts) rs)
        (on (subst (λ (c : Conf). Goes g v c (with_answer ts rs (fill rec g b x s))) (sym (top x b ts q.0 rs q.1 (all_length (g.preds b) s))) there))

module _ (g : Graph) (G : Sound g) (v : ℕ) where
  pub does : (n : ℕ) → Does g v n (read n g v)
  does zero b s lb l ts rs = absurd (not-suc-le-zero l)
  does (suc n) b s lb l ts rs = on (by (def s v b) refl (does n))
    where
      by : (d : Option ℕ) → def s v b ≡ d → Does g v n (read n g v) → Goes g v (visit g v b ts rs s d)
          (with_answer ts rs (read_on (read n g v) g v b s d))
      by (some x) e D = there
      by none e D =
          let w = walk (suc g.blocks) g s v [] b in
          let y = walked g G v (suc g.blocks) s [] b lb e in
          past w.passed w.end w.met y.low y.unmet
        where
          past : (over : List ℕ) (c : ℕ) (m : Option ℕ) → c < g.blocks → (m ≡ none → def s v c ≡ none)
              → Goes g v (find g v ts rs s over c m) (with_answer ts rs (read_past (read n g v) g v s over c m))
          past over c (some x) lc un = there
          past over c none lc un = seal (g.sealed c)
            where
              bs : List ℕ
              bs = before c over

              fits : lacks v (opened g v c bs s) g.blocks < n
              fits = omega (
                arith,
                l,
                less v s (opened g v c bs s) (opened_somes g v c bs s) c (un refl)
                    (mark_somes v s.next bs (new_param g v c s) v c (param_has g v c s)) g.blocks lc,
              )

              seal : (z : Bool) → Goes g v (open_param g v c s.next (before c over) ts rs (new_param g v c s) z)
                  (with_answer ts rs (begin (read n g v) g v c s.next (before c over) (new_param g v c s) z))
              seal false = there
              seal true = fill_does g v n (read n g v) D (read_somes g v n) G c s.next (opened g v c bs s) fits ts rs

  -- settling a parameter that waited
  pub fills : (n b x : ℕ) (s : Form) → lacks v s g.blocks < n → (ts : List Task) (rs : List ℕ)
      → Goes g v (conf (schedule g x b ts) rs s) (with_answer ts rs (fill (read n g v) g b x s))
  fills n = fill_does g v n (read n g v) (does n) (read_somes g v n) G
