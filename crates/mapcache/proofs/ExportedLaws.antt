-- The theorem behind crates/mapcache/specs/Exported.antt.
-- Assumes nothing.
use mathlib.Core.Path.{◌≡◌, refl, sym, ap, ap₂, ◌∙◌, subst}
use mathlib.Core.Bool.{Bool, true, false, cond, ◌||◌}
use mathlib.Core.List.{List, [], ◌∷◌, ◌++◌}
use Prim.Native.Nat.{ℕ, zero, suc, ◌≤◌}
use native.Mathlib.Omega.{arith}
use lib.Dec.{eqb, ltb}
use lib.ListN.{length, take}
use lib.IntN.{ℤ, pos, negsuc, neg_ℤ}
use Rattle.cells.specs.Cells.{Bytes}
use lib.Ieee.{Float, lt}
use Rattle.rules.specs.declared.Turned.TheVariants.{ShortStore}
use Rattle.rules.specs.State.{State, most, empty_at}
use Rattle.rules.specs.Records.{Request}
use Rattle.rules.specs.Sizing.{Sized, limits, refused as misfit, product, is_bad_ratio, unit, beyond, sizing_up_to, sizing}
use Rattle.rules.specs.Refusals.{number_of, detail_of, store_bytes}
use Rattle.rules.specs.Verdict.{done, turned_away, on_sized, create}
use Rattle.rules.proofs.RefusalsLaws.{some_number}
use Rattle.sizing.specs.declared.Settings.{Settings}
use Rattle.std.specs.Prelude.{Result, Ok, Err}
use Rattle.rules.specs.declared.Turned.{Turned}
use Rattle.rules.specs.Bytes.{parse}
use Rattle.rules.specs.Carry.{opening, CarryAs}
use Rattle.rules.specs.Feed.{completed_of, glued, ended}
use Rattle.runs.specs.declared.Fed.{Fed}
use Rattle.runs.specs.declared.Fed.TheVariants.{Done, Stopped}
use Rattle.s3_fifo.specs.Feeds.{fed_says, finish_says, replies_in, carried_out, verdict_says}
use Rattle.s3_fifo.specs.Streams.{NotTurned, Stream, over, feeds}
use Rattle.s3_fifo.specs.Calls.{Said, gave, halted, turned, created_says, ran_says, Follows, Created, Called}
use Rattle.s3_fifo.specs.Once.{Agrees}
use Rattle.s3_fifo.specs.Chains.{Chain, start, accepted, refused, fed}
use Rattle.s3_fifo.proofs.ChainLaws.{created_intact, called_intact}
use Rattle.s3_fifo.proofs.StreamLaws.{cut_anywhere, as_one_call, finish-says}
use Rattle.s3_fifo.proofs.WentLaws.{fed_intact, fed_fit}
use Rattle.s3_fifo.proofs.OnceLaws as once
use Rattle.mapcache.specs.Codes.{code_of, detail_in, CreatedAs, CalledAs, FedWith, FinishedWith}
use Rattle.mapcache.specs.Exported.{Negative, OneOutcome, nine, OneFed, Streamed, over as over·, feeds as feeds·, Exported}

-- ---- what a code and a detail say

abbrev above : ℤ → ℕ
above (pos n) = n
above (negsuc n) = 0

abbrev below : ℤ → ℕ
below (pos n) = 0
below (negsuc n) = suc n

below_minus : (n : ℕ) → below (neg_ℤ (pos n)) ≡ n
below_minus zero = refl
below_minus (suc n) = refl

-- a refusal has a number; what a stop of a stream has to be is left to say
abbrev Numbered : Type 0 → Said → Type 0
Numbered P (gave n) = Unit {0}
Numbered P (halted n d) = P
Numbered P (turned n d) = 1 ≤ n

code-once : (a b : Said) → Numbered ⊥ a → Numbered ⊥ b → code_of a ≡ code_of b → detail_in a ≡ detail_in b → a ≡ b
code-once (gave n) (gave m) h g e d = ap gave (ap above e)
code-once (gave n) (turned m f) h g e d = absurd (omega (arith, ap below e, below_minus m))
code-once (gave n) (halted m f) h g e d = absurd g
code-once (turned n d) (halted m f) h g e k = absurd g
code-once (halted n d) b h g e k = absurd h
code-once (turned n d) (gave m) h g e f = absurd (omega (arith, ap below e, below_minus n))
code-once (turned n d) (turned m f) h g e k = ap₂ turned (sym (below_minus n) ∙ ap below e ∙ below_minus m) k

numbered_ran : (r : Result ℕ Turned) → Numbered ⊥ (ran_says r)
numbered_ran (Ok n) = tt
numbered_ran (Err t) = some_number t

numbered_created : (r : Result (Unit {0}) Turned) → Numbered ⊥ (created_says r)
numbered_created (Ok u) = tt
numbered_created (Err t) = some_number t

called_apart : (r t : Result ℕ Turned) → code_of (ran_says r) ≡ code_of (ran_says t) → detail_in (ran_says r) ≡ detail_in (ran_says t) → r ≡ t
called_apart r t e d = once.ran-once r t (code-once (ran_says r) (ran_says t) (numbered_ran r) (numbered_ran t) e d)

-- ---- a creation is refused without a detail

abbrev PlainSized : Sized → Type 0
PlainSized (limits L) = Unit {0}
PlainSized (misfit n d) = d ≡ 0

either : (t : Bool) (x y : Sized) → PlainSized x → PlainSized y → PlainSized (cond t x y)
either true x y h g = h
either false x y h g = g

plain-sizing : (z : ℕ) (a g : Float) → PlainSized (sizing z a g)
unfolding sizing_up_to
plain-sizing z a g =
    either (eqb z 0) _ _ refl
    (either (ltb most z) _ _ refl
    (either (is_bad_ratio a || lt unit a) _ _ refl
    (either (is_bad_ratio g) _ _ refl
    (either (beyond most (product z g)) _ _ refl tt))))

plain_follows : (a : Said) (v : Sized) (s s' : List ℕ) → PlainSized v → Follows (on_sized (length s) v) a s s' [] [] → detail_in a ≡ 0
plain_follows a (misfit n d) s s' h f = ap detail_in f.0 ∙ h
plain_follows a (limits L) s s' h f = pick (ltb (length s) store_bytes) f
  where
    pick : (t : Bool) → Follows (cond t (turned_away ShortStore) (done (empty_at L) [])) a s s' [] [] → detail_in a ≡ 0
    pick true g = ap detail_in g.0
    pick false g = ap detail_in g.0

plain : {g : Settings} {s s' : List ℕ} (r : Result (Unit {0}) Turned) → Created g s r s' → detail_in (created_says r) ≡ 0
unfolding create
plain {g} {s} {s'} r c =
    plain_follows (created_says r) (sizing g.capacity g.small_ratio g.ghost_ratio) s s'
    (plain-sizing g.capacity g.small_ratio g.ghost_ratio) c.leaves

created_apart : {g h : Settings} {s₁ s₂ t₁ t₂ : List ℕ} (r t : Result (Unit {0}) Turned) → Created g s₁ r s₂ → Created h t₁ t t₂
    → code_of (created_says r) ≡ code_of (created_says t) → r ≡ t
created_apart r t c d e =
    once.creation-once r t (code-once (created_says r) (created_says t) (numbered_created r) (numbered_created t) e (plain r c ∙ sym (plain t d)))

-- ---- one outcome

refused-bytes : (a : Said) {m : ℤ} {s₁ s₂ : List ℕ} → Numbered ⊥ a → m ≡ code_of a → Agrees a s₁ s₂ → Negative m → s₁ ≡ s₂
refused-bytes (gave n) k e g h = absurd (subst Negative e h)
refused-bytes (halted n d) k e g h = absurd k
refused-bytes (turned n d) k e g h = g.refused_same n d refl

created_once : {capacity : ℕ} {small ghost : Float} {s s₁ s₂ : List ℕ} {m n : ℤ} → CreatedAs capacity small ghost s m s₁
    → CreatedAs capacity small ghost s n s₂ → OneOutcome m n 0 0 s₁ s₂ [] []
created_once c d =
    let o = once.created_once c.answer d.answer c.created d.created in
    record {
      code = c.code_is ∙ ap (λ (r : Result (Unit {0}) Turned). code_of (created_says r)) o.answer ∙ sym d.code_is;
      detail = refl;
      replies = refl;
      refused_same = refused-bytes (created_says c.answer) (numbered_created c.answer) c.code_is o.stores;
      said = created_says c.answer;
      said_is = c.code_is;
      stores = o.stores;
    }

called_once : {s q p s₁ s₂ p₁ p₂ : List ℕ} {m n : ℤ} {d e : ℕ} → CalledAs s q p m d s₁ p₁ → CalledAs s q p n e s₂ p₂ → OneOutcome m n d e s₁ s₂ p₁ p₂
called_once c d =
    let o = once.called_once c.answer d.answer c.called d.called in
    record {
      code = c.code_is ∙ ap (λ (r : Result ℕ Turned). code_of (ran_says r)) o.answer ∙ sym d.code_is;
      detail = c.detail_is ∙ ap (λ (r : Result ℕ Turned). detail_in (ran_says r)) o.answer ∙ sym d.detail_is;
      replies = o.replies;
      refused_same = refused-bytes (ran_says c.answer) (numbered_ran c.answer) c.code_is o.stores;
      said = ran_says c.answer;
      said_is = c.code_is;
      stores = o.stores;
    }

-- ---- what was accepted, and what was not

made : {capacity : ℕ} {small ghost : Float} {s s' : List ℕ} → CreatedAs capacity small ghost s (pos 0) s'
    → Created (record { capacity = capacity; small_ratio = small; ghost_ratio = ghost }) s (Ok tt) s'
made {capacity} {small} {ghost} {s} {s'} c =
    let g : Settings = record { capacity = capacity; small_ratio = small; ghost_ratio = ghost } in
    subst (λ (r : Result (Unit {0}) Turned). Created g s r s') (by_code c.answer c.code_is) c.created
  where
    by_code : (r : Result (Unit {0}) Turned) → pos 0 ≡ code_of (created_says r) → r ≡ Ok tt
    by_code (Ok u) e = refl
    by_code (Err t) e = absurd (omega (arith, ap below e, below_minus (number_of t), some_number t))

ran : {s q p s' p' : List ℕ} {n d : ℕ} → CalledAs s q p (pos n) d s' p' → Called s q p (Ok n) s' p'
ran {s} {q} {p} {s'} {p'} {n} c = subst (λ (r : Result ℕ Turned). Called s q p r s' p') (by_code c.answer c.code_is) c.called
  where
    by_code : (r : Result ℕ Turned) → pos n ≡ code_of (ran_says r) → r ≡ Ok n
    by_code (Ok m) e = ap Ok (sym (ap above e))
    by_code (Err t) e = absurd (omega (arith, ap below e, below_minus (number_of t), some_number t))

chain_stays : {s q p s' p' : List ℕ} {m : ℤ} {d : ℕ} {σ₀ : State} {rs : List Request} {bs : List ℕ} → Chain s σ₀ rs bs → CalledAs s q p m d s' p'
    → Negative m → Chain s' σ₀ rs bs
chain_stays {s} {q} {p} {s'} {p'} {m} {d} {σ₀} {rs} {bs} g c h = by_answer c.answer c.code_is c.called
  where
    by_answer : (r : Result ℕ Turned) → m ≡ code_of (ran_says r) → Called s q p r s' p' → Chain s' σ₀ rs bs
    by_answer (Ok n) e k = absurd (subst Negative e h)
    by_answer (Err t) e k = refused (number_of t) (detail_of t) g k refl

-- ---- feeds and streams

-- another refusal than 9 leaves the store as it was
fed-same : (a : Said) {m : ℤ} {s₁ s₂ : List ℕ} → m ≡ code_of a → Agrees a s₁ s₂ → Negative m → (m ≡ nine → ⊥) → s₁ ≡ s₂
fed-same (gave n) e g h k = absurd (subst Negative e h)
fed-same (halted n d) e g h k = absurd (k e)
fed-same (turned n d) e g h k = g.refused_same n d refl

fed_once : {s c q p s₁ s₂ c₁ c₂ p₁ p₂ : List ℕ} {m n : ℤ} {i j d e : ℕ} → FedWith s c q p m i d s₁ c₁ p₁ → FedWith s c q p n j e s₂ c₂ p₂
    → OneFed m n i j d e s₁ s₂ c₁ c₂ p₁ p₂
fed_once f g =
    let o = once.fed_once f.answer g.answer f.fed g.fed in
    record {
      code = f.code_is ∙ ap (λ (r : Result Fed Turned). code_of (fed_says r)) o.answer ∙ sym g.code_is;
      replied = f.replied_is ∙ ap (λ (r : Result Fed Turned). replies_in (fed_says r)) o.answer ∙ sym g.replied_is;
      detail = f.detail_is ∙ ap (λ (r : Result Fed Turned). detail_in (fed_says r)) o.answer ∙ sym g.detail_is;
      carries = o.carries;
      replies = o.replies;
      refused_same = fed-same (fed_says f.answer) f.code_is o.stores;
      said = fed_says f.answer;
      said_is = (f.code_is, f.replied_is, f.detail_is);
      stores = o.stores;
    }

finished_once : {c : List ℕ} {m n : ℤ} {d e : ℕ} → FinishedWith c m d → FinishedWith c n e → (m ≡ n) × (d ≡ e)
finished_once f g =
    let o = once.finished_once f.answer g.answer f.finished g.finished in (
      f.code_is ∙ ap (λ (r : Result (Unit {0}) Turned). code_of (finish_says r)) o ∙ sym g.code_is,
      f.detail_is ∙ ap (λ (r : Result (Unit {0}) Turned). detail_in (finish_says r)) o ∙ sym g.detail_is,
    )

chain_feeds : {s c q p s' c' p' : List ℕ} {m : ℤ} {n d : ℕ} {σ₀ : State} {rs : List Request} {bs : List ℕ} → Chain s σ₀ rs bs → Bytes c → Bytes q
    → (f : FedWith s c q p m n d s' c' p')
    → Chain s' σ₀ (rs ++ carried_out (fed_says f.answer) (completed_of f.fed.carry q)) (bs ++ take n p')
chain_feeds {q = q} {s' = s'} {p' = p'} {σ₀ = σ₀} {rs = rs} {bs = bs} g b d f =
    subst (λ (i : ℕ). Chain s' σ₀ (rs ++ carried_out (fed_says f.answer) (completed_of f.fed.carry q)) (bs ++ take i p')) (sym f.replied_is)
    (fed g b d f.fed)

numbered_fed : (r : Result Fed Turned) → Numbered (Unit {0}) (fed_says r)
numbered_fed (Ok (Done n)) = tt
numbered_fed (Ok (Stopped n d)) = tt
numbered_fed (Err t) = some_number t

minus_negative : (n : ℕ) → 1 ≤ n → Negative (neg_ℤ (pos n))
minus_negative zero h = absurd (omega arith)
minus_negative (suc n) h = tt

-- a code that is not below 0, or is 9's, goes on
code-goes : (a : Said) {m : ℤ} → m ≡ code_of a → (Negative m → m ≡ nine) → Numbered (Unit {0}) a → NotTurned a
code-goes (gave n) e g h = tt
code-goes (halted n d) e g h = tt
code-goes (turned n d) {m} e g h = sym (below_minus n) ∙ ap below (sym e ∙ g (subst Negative (sym e) (minus_negative n h)))

fed-goes : {s c q p s' c' p' : List ℕ} {m : ℤ} {n d : ℕ} (f : FedWith s c q p m n d s' c' p') → (Negative m → m ≡ nine) → NotTurned (fed_says f.answer)
fed-goes f g = code-goes (fed_says f.answer) f.code_is g (numbered_fed f.answer)

streamed : {s c bs s' c' : List ℕ} {ps : List (List ℕ)} → Streamed s c ps bs s' c' → Stream s c ps bs s' c'
streamed over· = over
streamed (feeds· {s = s} {c = c} {q = q} {p₁ = p₁} {bs = bs} {s' = s'} {c' = c'} {ps = ps} f g t) =
    subst (λ (i : ℕ). Stream s c (q ∷ ps) (take i p₁ ++ bs) s' c') (sym f.replied_is)
    (feeds f.fed (fed-goes f g) (streamed t))

finish-says-all : {s c bs s' c' : List ℕ} {m : ℤ} {d : ℕ} (ps : List (List ℕ)) → CarryAs c opening → Streamed s c ps bs s' c' → FinishedWith c' m d
    → let a = verdict_says (ended (parse (glued ps)).end) in (m ≡ code_of a) × (d ≡ detail_in a)
finish-says-all ps x t f =
    let e = finish-says ps x (streamed t) f.answer f.finished in (f.code_is ∙ ap code_of e, f.detail_is ∙ ap detail_in e)

pub exported : Exported
exported =
    record {
      created_once = created_once;
      called_once = called_once;
      created_apart = created_apart;
      called_apart = called_apart;
      created_intact = λ c. created_intact (made c);
      called_intact = λ c. called_intact (ran c);
      chain_starts = λ c. start (made c);
      chain_grows = λ g b c. accepted g b (ran c);
      chain_stays = chain_stays;
      fed_once = fed_once;
      finished_once = finished_once;
      chain_feeds = chain_feeds;
      fed_intact = λ f g. fed_intact f.answer f.fed (fed-goes f g);
      fed_fit = λ f g. fed_fit f.answer f.fed (fed-goes f g);
      finish-says = finish-says-all;
      cut_anywhere = λ ps qs a b e. cut_anywhere ps qs (streamed a) (streamed b) e;
      as_one_call = λ ps x t c. as_one_call ps x (streamed t) (ran c);
    }
