-- No second outcome: two outcomes of one call that both satisfy its statement agree in the answer, the reply buffer, the state that the store holds, and
-- all that stands behind it.
-- Assumes nothing.
use mathlib.Core.Path.{◌≡◌, refl, sym, ap, ◌∙◌, subst}
use mathlib.Core.Bool.{Bool, true, false, cond}
use mathlib.Core.List.{List, []}
use Prim.Native.Nat.{ℕ}
use native.Mathlib.Omega.{arith}
use lib.ListN.{length, drop}
use Rattle.nodes.specs.Nodes.{used}
use Rattle.rules.specs.State.{State}
use Rattle.rules.specs.Verdict.{Verdict, refused, done, create, Reads, short, damaged, reads, call}
use Rattle.sizing.specs.declared.Settings.{Settings}
use Rattle.rules.specs.Carry.{Carry, Carried, ReadsCarry}
use Rattle.rules.specs.Feed.{Onward, feed, finish_on}
use Rattle.rules.proofs.CarriedLaws.{carried-once}
use Rattle.rules.proofs.RefusalsLaws.{turned_away_by, turned-back}
use Rattle.store.specs.Holds.{shape_for, Holds}
use Rattle.store.proofs.HoldsLaws.{holds-once}
use Rattle.std.specs.Prelude.{Result, Ok, Err}
use Rattle.rules.specs.declared.Turned.{Turned}
use Rattle.runs.specs.declared.Fed.{Fed}
use Rattle.runs.specs.declared.Fed.TheVariants.{Done, Stopped}
use Rattle.s3_fifo.specs.Feeds.{fed_says, said_with, FollowsFeed, FedAs, verdict_says, FinishAs}
use Rattle.s3_fifo.specs.Calls.{Said, gave, halted, turned, created_says, ran_says, ReadsAs, Settled, Follows, Created, Called}
use Rattle.s3_fifo.specs.Once.{SameState, Agrees, OneCreation, OneCall, OneFeed}

-- ---- the answer is known by what it says

pub gave_not : {n m d : ℕ} → gave n ≡ turned m d → ⊥
gave_not e = let z : ◌≡◌ {A = ℕ} 0 1 = cc in omega arith

-- with what an answer of so many reply bytes has
module _ {A : Type 0} (gives : ℕ → A) where
  abbrev answer_by : Said → Result A Turned
  answer_by (gave n) = Ok (gives n)
  answer_by (halted n d) = Ok (gives n)
  answer_by (turned n d) = Err (turned_away_by n d)

ran-back : (r : Result ℕ Turned) → answer_by (λ n. n) (ran_says r) ≡ r
ran-back (Ok n) = refl
ran-back (Err t) = ap Err (turned-back t)

pub ran-once : (r t : Result ℕ Turned) → ran_says r ≡ ran_says t → r ≡ t
ran-once r t e = sym (ran-back r) ∙ ap (answer_by (λ n. n)) e ∙ ran-back t

created-back : (r : Result (Unit {0}) Turned) → answer_by (λ n. tt) (created_says r) ≡ r
created-back (Ok u) = refl
created-back (Err t) = ap Err (turned-back t)

pub creation-once : (r t : Result (Unit {0}) Turned) → created_says r ≡ created_says t → r ≡ t
creation-once r t e = sym (created-back r) ∙ ap (answer_by (λ n. tt)) e ∙ created-back t

-- ---- a store reads as one thing

pub reads-once : (s : List ℕ) (a b : Reads) → ReadsAs s a → ReadsAs s b → a ≡ b
reads-once s short short h g = refl
reads-once s short damaged h g = absurd (omega (arith, h, g.0))
reads-once s short (reads σ) h g = absurd (omega (arith, h, g.0))
reads-once s damaged short h g = absurd (omega (arith, g, h.0))
reads-once s damaged damaged h g = refl
reads-once s damaged (reads σ) h g = absurd (h.1 σ g.1)
reads-once s (reads σ) short h g = absurd (omega (arith, g, h.0))
reads-once s (reads σ) damaged h g = absurd (g.1 σ h.1)
reads-once s (reads σ) (reads τ) h g = ap reads (holds-once h.1 g.1)

-- ---- two stores that nobody can tell apart by what they hold

pub alike_self : (s : List ℕ) → SameState s s
alike_self s = record { holds = λ σ h. h; back = λ σ h. h; same_length = refl }

pub alike-holds : {s₁ s₂ : List ℕ} {τ : State} → Holds s₁ τ → Holds s₂ τ → length s₁ ≡ length s₂ → SameState s₁ s₂
alike-holds {s₁} {s₂} a b e =
    record { holds = λ σ h. subst (Holds s₂) (holds-once a h) b; back = λ σ h. subst (Holds s₁) (holds-once b h) a; same_length = e }

agrees_self : (a : Said) (s : List ℕ) → Agrees a s s
agrees_self a s = record { refused_same = λ n d e. refl; alike = alike_self s; surplus = λ σ h. refl }

-- an answer that is no refusal
abbrev Kind : Said → Type 0
Kind (gave n) = Unit {0}
Kind (halted n d) = Unit {0}
Kind (turned n d) = ⊥

settled_agrees : {s s₁ s₂ : List ℕ} {τ : State} (a : Said) → Kind a → Settled s s₁ τ → Settled s s₂ τ → Agrees a s₁ s₂
settled_agrees {s} {s₁} {s₂} {τ} x k a b =
    record {
      refused_same = λ n d e. absurd (subst Kind e k);
      alike = alike-holds a.holds b.holds (a.same_length ∙ sym b.same_length);
      surplus = λ σ h. subst
          (λ (ρ : State). drop (used (shape_for ρ.limits)) s₁ ≡ drop (used (shape_for ρ.limits)) s₂)
          (holds-once a.holds h)
          (a.surplus ∙ sym b.surplus);
    }

-- what one verdict leaves is one thing
follows_once : (v : Verdict State) (a b : Said) (s s₁ s₂ p p₁ p₂ : List ℕ) → Follows v a s s₁ p p₁ → Follows v b s s₂ p p₂
    → (a ≡ b) × (p₁ ≡ p₂) × Agrees a s₁ s₂
follows_once (refused n d) a b s s₁ s₂ p p₁ p₂ h g =
    (h.0 ∙ sym g.0, h.2 ∙ sym g.2, subst (λ (x : List ℕ). Agrees a s₁ x) (h.1 ∙ sym g.1) (agrees_self a s₁))
follows_once (done σ bs) a b s s₁ s₂ p p₁ p₂ h g =
    (h.0 ∙ sym g.0, h.2 ∙ sym g.2, subst (λ (x : Said). Agrees x s₁ s₂) (sym h.0) (settled_agrees (gave (length bs)) tt h.1 g.1))

-- ---- a creation and a call

pub created_once : {settings : Settings} {s s₁ s₂ : List ℕ} (r t : Result (Unit {0}) Turned) → Created settings s r s₁ → Created settings s t s₂
    → OneCreation r t s₁ s₂
created_once {settings} {s} {s₁} {s₂} r t c d =
    let v = create settings.capacity settings.small_ratio settings.ghost_ratio (length s) in
    let l = follows_once v (created_says r) (created_says t) s s₁ s₂ [] [] [] c.leaves d.leaves in
    record { answer = creation-once r t l.0; stores = l.2 }

pub called_once : {s q p s₁ s₂ p₁ p₂ : List ℕ} (r t : Result ℕ Turned) → Called s q p r s₁ p₁ → Called s q p t s₂ p₂ → OneCall r t s₁ s₂ p₁ p₂
called_once {s} {q} {p} {s₁} {s₂} {p₁} {p₂} r t c d =
    let e : c.store ≡ d.store = reads-once s c.store d.store c.store_is d.store_is in
    let f : Follows (call d.store q (length p)) (ran_says r) s s₁ p p₁ =
    subst (λ (x : Reads). Follows (call x q (length p)) (ran_says r) s s₁ p p₁) e c.leaves in
    let l = follows_once (call d.store q (length p)) (ran_says r) (ran_says t) s s₁ s₂ p p₁ p₂ f d.leaves in
    record { answer = ran-once r t l.0; replies = l.1; stores = l.2 }

-- ---- a feed and a finish

abbrev fed_by : Said → Result Fed Turned
fed_by (gave n) = Ok (Done n)
fed_by (halted n d) = Ok (Stopped n d)
fed_by (turned n d) = Err (turned_away_by n d)

fed-back : (r : Result Fed Turned) → fed_by (fed_says r) ≡ r
fed-back (Ok (Done n)) = refl
fed-back (Ok (Stopped n d)) = refl
fed-back (Err t) = ap Err (turned-back t)

pub fed-says-once : (r t : Result Fed Turned) → fed_says r ≡ fed_says t → r ≡ t
fed-says-once r t e = sym (fed-back r) ∙ ap fed_by e ∙ fed-back t

said-kind : (c : Carry) (n : ℕ) → Kind (said_with c n)
said-kind c n = go c.stopped
  where
    go : (t : Bool) → Kind (cond t (halted n c.offset) (gave n))
    go true = tt
    go false = tt

-- an answer with reply bytes is no refusal
pub goes-not : (c : Carry) (n : ℕ) {m d : ℕ} → said_with c n ≡ turned m d → ⊥
goes-not c n e = subst Kind e (said-kind c n)

follows_feed-once : (v : Verdict Onward) (a b : Said) (s s₁ s₂ c c₁ c₂ p p₁ p₂ : List ℕ) → FollowsFeed v a s s₁ c c₁ p p₁ → FollowsFeed v b s s₂ c c₂ p p₂
    → (a ≡ b) × (c₁ ≡ c₂) × (p₁ ≡ p₂) × Agrees a s₁ s₂
follows_feed-once (refused n d) a b s s₁ s₂ c c₁ c₂ p p₁ p₂ h g =
    (h.0 ∙ sym g.0, h.2 ∙ sym g.2, h.3 ∙ sym g.3, subst (λ (x : List ℕ). Agrees a s₁ x) (h.1 ∙ sym g.1) (agrees_self a s₁))
follows_feed-once (done w bs) a b s s₁ s₂ c c₁ c₂ p p₁ p₂ h g =
    let x : Said = said_with w.carry (length bs) in (
      h.0 ∙ sym g.0,
      h.2 ∙ sym g.2,
      h.3 ∙ sym g.3,
      subst (λ (y : Said). Agrees y s₁ s₂) (sym h.0) (settled_agrees x (said-kind w.carry (length bs)) h.1 g.1),
    )

-- the verdict on a feed of that store and that record
pub fed-on : {s c q p s' c' p' : List ℕ} {r : Result Fed Turned} (x : Reads) (k : Carried) → ReadsAs s x → ReadsCarry c k → FedAs s c q p r s' c' p'
    → FollowsFeed (feed x k q (length p)) (fed_says r) s s' c c' p p'
fed-on {s} {c} {q} {p} {s'} {c'} {p'} {r} x k h g f =
    let d : f.store ≡ x = reads-once s f.store x f.store_is h in
    let e : f.carry ≡ k = carried-once c f.carry k f.carry_is g in
    subst (λ (y : Reads). FollowsFeed (feed y k q (length p)) (fed_says r) s s' c c' p p') d
    (subst (λ (l : Carried). FollowsFeed (feed f.store l q (length p)) (fed_says r) s s' c c' p p') e f.leaves)

pub fed_once : {s c q p s₁ s₂ c₁ c₂ p₁ p₂ : List ℕ} (r t : Result Fed Turned) → FedAs s c q p r s₁ c₁ p₁ → FedAs s c q p t s₂ c₂ p₂
    → OneFeed r t s₁ s₂ c₁ c₂ p₁ p₂
fed_once {s} {c} {q} {p} {s₁} {s₂} {c₁} {c₂} {p₁} {p₂} r t f g =
    let v = feed g.store g.carry q (length p) in
    let l = follows_feed-once v (fed_says r) (fed_says t) s s₁ s₂ c c₁ c₂ p p₁ p₂ (fed-on g.store g.carry g.store_is g.carry_is f) g.leaves in
    record { answer = fed-says-once r t l.0; carries = l.1; replies = l.2; stores = l.3 }

pub finished_once : {c : List ℕ} (r t : Result (Unit {0}) Turned) → FinishAs c r → FinishAs c t → r ≡ t
finished_once {c} r t f g =
    creation-once r t
    (f.says ∙ ap (λ (k : Carried). verdict_says (finish_on k)) (carried-once c f.carry g.carry f.carry_is g.carry_is) ∙ sym g.says)
