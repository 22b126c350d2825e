-- Demand 3 (RULES 11) over the calls: whatever outcomes satisfy the exported statements, from a creation on, accepted calls with refused ones between.
-- Assumes nothing.
use mathlib.Core.Path.{◌≡◌, refl, sym, ap, ap₂, ◌∙◌, subst}
use mathlib.Core.Bool.{Bool, true, false, cond}
use mathlib.Core.List.{List, [], ◌∷◌, ◌++◌, append-nil}
use Prim.Native.Nat.{ℕ, ◌≤◌}
use native.Mathlib.Omega.{arith}
use lib.Dec.{ltb}
use lib.ListN.{length, take, drop}
use lib.Seq.{take_at}
use borrow.Author.Tests.{ltb-false}
use Rattle.cells.specs.Cells.{Bytes}
use Rattle.cells.proofs.MembersLaws.{every_append, every-left}
use Rattle.rules.specs.declared.Turned.{Turned}
use Rattle.rules.specs.declared.Turned.TheVariants.{ShortStore}
use Rattle.rules.specs.State.{Limits, State, empty_at, Fine}
use Rattle.rules.specs.Records.{Request, IN, Narrow, AllNarrow, AllPeeks, Outcome, tell_first}
use Rattle.rules.specs.Requests.{apply, run}
use Rattle.rules.specs.Bytes.{End, whole, unknown_at, cut_at, encode_all, parse}
use Rattle.rules.specs.Sizing.{Sized, limits, refused as misfit, sizing}
use Rattle.rules.specs.Refusals.{RefusalRow, store_bytes, broken, run_rows}
use Rattle.rules.specs.Verdict.{Verdict, refused as turned_away_by, done, turned_away, unless, on_sized, create, Reads, short, damaged, reads, finished, call}
use Rattle.rules.specs.Ledger.{history}
use Rattle.rules.specs.Replies.{ReadAs}
use Rattle.rules.proofs.SoundLaws.{empty-sound}
use Rattle.rules.specs.Carry.{Carry, CarryAs, Carried, carries, ReadsCarry}
use Rattle.rules.specs.Feed.{Flow, flow, feed_on, completed, completed_of, Onward, feed}
use Rattle.rules.proofs.ByteLaws.{bytes-append}
use Rattle.rules.proofs.ParseLaws.{parse-sized}
use Rattle.rules.proofs.CarriedLaws.{kept-bytes}
use Rattle.rules.proofs.StreamLaws.{feed-runs}
use Rattle.rules.proofs.RoomLaws.{encode-append}
use Rattle.rules.proofs.VerdictLaws.{Passed}
use Rattle.rules.proofs.LedgerLaws.{demand_3_run, run-append}
use Rattle.rules.proofs.RepliesLaws.{reading-once, history-read}
use Rattle.sizing.specs.declared.Settings.{Settings}
use Rattle.sizing.proofs.AcceptedLaws.{accepted-fine, accepted-limits}
use Rattle.store.specs.Holds.{Holds}
use Rattle.std.specs.Prelude.{Result, Ok}
use Rattle.runs.specs.declared.Fed.{Fed}
use Rattle.s3_fifo.specs.Feeds.{fed_says, replies_in, carried_out, FollowsFeed, FedAs}
use Rattle.s3_fifo.specs.Streams.{NotTurned}
use Rattle.s3_fifo.specs.Calls.{Said, gave, halted, turned, ran_says, ReadsAs, Follows, Created, Called}
use Rattle.s3_fifo.specs.Chains.{limits_made, Chain, start, accepted, refused, fed, Grown, Kept, FullWithin}
use Rattle.s3_fifo.proofs.OnceLaws.{gave_not, goes-not, reads-once}
use Rattle.s3_fifo.proofs.WentLaws.{goes_on, goes-lent}

-- ---- from an answer to the verdict's last word

-- an answer that is no refusal passed every row
module _ (n : ℕ) (s s' p p' : List ℕ) where
  row-passed : (t : Bool) (why : Turned) (v : Verdict State) → Follows (cond t (turned_away why) v) (gave n) s s' p p' → Follows v (gave n) s s' p p'
  row-passed true why v h = absurd (gave_not h.0)
  row-passed false why v h = h

  rows-passed : (rows : List RefusalRow) (v : Verdict State) → Follows (unless rows v) (gave n) s s' p p' → Follows v (gave n) s s' p p'
  rows-passed [] v h = h
  rows-passed (r ∷ rows) v h = rows-passed rows v (row-passed r.when r.why (unless rows v) h)

  row-false : (t : Bool) (why : Turned) (v : Verdict State) → Follows (cond t (turned_away why) v) (gave n) s s' p p' → t ≡ false
  row-false true why v h = absurd (gave_not h.0)
  row-false false why v h = refl

  rows_all : (rows : List RefusalRow) (v : Verdict State) → Follows (unless rows v) (gave n) s s' p p' → Passed rows
  rows_all [] v h = tt
  rows_all (r ∷ rows) v h =
      (row-false r.when r.why (unless rows v) h, rows_all rows v (row-passed r.when r.why (unless rows v) h))

-- one that is leaves the store as it was
refused_same : (v : Verdict State) (n d : ℕ) (a : Said) (s s' p p' : List ℕ) → Follows v a s s' p p' → a ≡ turned n d → s' ≡ s
refused_same (turned_away_by m e) n d a s s' p p' h r = h.1
refused_same (done σ bs) n d a s s' p p' h r = absurd (gave_not (sym h.0 ∙ r))

-- ---- creation

-- the store holds the empty state of the settings' limits, and is long enough
pub record Begun (L : Limits) (s' : List ℕ) : Type 0 where
  pub fine : Fine L
  pub holds : Holds s' (empty_at L)
  pub long : store_bytes ≤ length s'

begin : (a : Sized) (s s' : List ℕ) {M : Limits} → ((L : Limits) → a ≡ limits L → Fine L × (L ≡ M))
    → Follows (on_sized (length s) a) (gave 0) s s' [] [] → Begun M s'
begin (misfit n d) s s' f h = absurd (gave_not h.0)
begin (limits L) s s' {M} f h = subst (λ (K : Limits). Begun K s') (f L refl).1 (pick (ltb (length s) store_bytes) refl h)
  where
    pick : (t : Bool) → ltb (length s) store_bytes ≡ t → Follows (cond t (turned_away ShortStore) (done (empty_at L) [])) (gave 0) s s' [] [] → Begun L s'
    pick true e g = absurd (gave_not g.0)
    pick false e g = record { fine = (f L refl).0; holds = g.1.holds; long = omega (arith, ltb-false (length s) store_bytes e, g.1.same_length) }

pub begun : {settings : Settings} {s s' : List ℕ} → Created settings s (Ok tt) s' → Begun (limits_made settings) s'
unfolding create
begun {settings} {s} {s'} c =
    let z = settings.capacity in
    let a = settings.small_ratio in
    let g = settings.ghost_ratio in
    begin (sizing z a g) s s' (λ L e. (accepted-fine z a g e, accepted-limits z a g e)) c.leaves

-- ---- a call that was accepted

-- the store holds what the rules make of the state that it held, and the replies are the rules'
pub record Served (σ : State) (q s' p' : List ℕ) (n : ℕ) : Type 0 where
  pub holds : Holds s' (run σ (parse q).requests).state
  pub told : take n p' ≡ encode_all (run σ (parse q).requests).replies

pub served : {s q p s' p' : List ℕ} {n : ℕ} {σ : State} → Holds s σ → store_bytes ≤ length s → Called s q p (Ok n) s' p'
    → Served σ q s' p' n × (store_bytes ≤ length s')
unfolding call
served {s} {q} {p} {s'} {p'} {n} {σ} h b c =
    let e : c.store ≡ reads σ = reads-once s c.store (reads σ) c.store_is (b, h) in
    let f : Follows (call (reads σ) q (length p)) (gave n) s s' p p' = subst (λ (x : Reads). Follows (call x q (length p)) (gave n) s s' p p') e c.leaves in
    let bs : List ℕ = encode_all (run σ (parse q).requests).replies in
    let g = rows-passed n s s' p p' (run_rows (length q) (parse q) (length p)) (finished (run σ (parse q).requests)) f in
    let count : n ≡ length bs = said g.0 in
    (record { holds = g.1.holds; told = ap₂ take count g.2 ∙ take_at bs (drop (length bs) p) (length bs) refl }, omega (arith, g.1.same_length))
  where
    said : {a b : ℕ} → gave a ≡ gave b → a ≡ b
    said x = cc

-- an accepted call's requests were whole
pub record AllServed (s q s' p' : List ℕ) (n : ℕ) : Type 0 where
  pub state : State
  pub held : Holds s state
  pub long : store_bytes ≤ length s
  pub served : Served state q s' p' n
  pub same_length : length s' ≡ length s
  pub ended : (parse q).end ≡ whole

not-broken : (e : End) → broken e ≡ false → e ≡ whole
not-broken whole h = refl
not-broken (unknown_at i) h = let z : ◌≡◌ {A = ℕ} 0 1 = cc in absurd (omega arith)
not-broken (cut_at i) h = let z : ◌≡◌ {A = ℕ} 0 1 = cc in absurd (omega arith)

whole-on : (s q p s' p' : List ℕ) (n : ℕ) (x : Reads) → ReadsAs s x → Follows (call x q (length p)) (gave n) s s' p p' → Called s q p (Ok n) s' p'
    → AllServed s q s' p' n
unfolding call
whole-on s q p s' p' n short h l c = absurd (gave_not l.0)
whole-on s q p s' p' n damaged h l c = absurd (gave_not l.0)
whole-on s q p s' p' n (reads σ) h l c =
    let rows = run_rows (length q) (parse q) (length p) in
    let a = rows_all n s s' p p' rows (finished (run σ (parse q).requests)) l in
    record {
      state = σ;
      held = h.1;
      long = h.0;
      served = (served h.1 h.0 c).0;
      same_length = (rows-passed n s s' p p' rows (finished (run σ (parse q).requests)) l).1.same_length;
      ended = not-broken (parse q).end a.1.0;
    }

pub whole-served : {s q p s' p' : List ℕ} {n : ℕ} → Called s q p (Ok n) s' p' → AllServed s q s' p' n
whole-served {s} {q} {p} {s'} {p'} {n} c = whole-on s q p s' p' n c.store c.store_is c.leaves c

-- ---- what an accepted call leaves never counts as damaged

pub created_intact : {settings : Settings} {s s' : List ℕ} → Created settings s (Ok tt) s' → ReadsAs s' damaged → ⊥
created_intact {settings} c d = d.1 (empty_at (limits_made settings)) (begun c).holds

intact : (s q p s' p' : List ℕ) (n : ℕ) (x : Reads) → (AllPeeks (parse q).requests → s' ≡ s) → ReadsAs s x → Follows (call x q (length p)) (gave n) s s' p p'
    → ReadsAs s' damaged → ⊥
unfolding call
intact s q p s' p' n short u h l d = absurd (gave_not l.0)
intact s q p s' p' n damaged u h l d = absurd (gave_not l.0)
intact s q p s' p' n (reads σ) u h l d =
    let c : Called s q p (Ok n) s' p' = record { store = reads σ; store_is = h; leaves = l; untouched = u } in
    d.1 (run σ (parse q).requests).state (served h.1 h.0 c).0.holds

pub called_intact : {s q p s' p' : List ℕ} {n : ℕ} → Called s q p (Ok n) s' p' → ReadsAs s' damaged → ⊥
called_intact {s} {q} {p} {s'} {p'} {n} c d = intact s q p s' p' n c.store c.untouched c.store_is c.leaves d

-- ---- the chain

-- requests more, and the replies to them
grow : {s s' : List ℕ} {σ₀ : State} {rs : List Request} {bs : List ℕ} (more : List Request) {new : List ℕ} → Grown s σ₀ rs bs → AllNarrow more
    → Holds s' (run (run σ₀ rs).state more).state → new ≡ encode_all (run (run σ₀ rs).state more).replies → store_bytes ≤ length s'
    → Grown s' σ₀ (rs ++ more) (bs ++ new)
grow {s} {s'} {σ₀} {rs} {bs} more {new} g z h t b =
    let e : run σ₀ (rs ++ more) ≡ tell_first (run σ₀ rs).replies (run (run σ₀ rs).state more) = run-append σ₀ rs more in
    record {
      sound = g.sound;
      narrow = every_append Narrow rs more g.narrow z;
      holds = subst (Holds s') (ap (λ (o : Outcome). o.state) (sym e)) h;
      told =
          ap₂ (λ (x y : List ℕ). x ++ y) g.told t
          ∙ sym (encode-append (run σ₀ rs).replies (run (run σ₀ rs).state more).replies)
          ∙ ap (λ (o : Outcome). encode_all o.replies) (sym e);
      long = b;
    }

grow-called : {s q p s' p' : List ℕ} {n : ℕ} {σ₀ : State} {rs : List Request} {bs : List ℕ} → Grown s σ₀ rs bs → Bytes q → Called s q p (Ok n) s' p'
    → Grown s' σ₀ (rs ++ (parse q).requests) (bs ++ take n p')
grow-called {q = q} g b c = let v = served g.holds g.long c in grow (parse q).requests g (parse-sized q b) v.0.holds v.0.told v.1

-- what a feed carries out has numbers of 64 bits
fed-narrow : {c : List ℕ} (q : List ℕ) (k : Carry) → CarryAs c k → Bytes c → Bytes q → AllNarrow (completed_of (carries k) q)
unfolding completed
fed-narrow {c} q k x b d = go k.stopped
  where
    go : (t : Bool) → AllNarrow (cond t [] (completed k q))
    go true = tt
    go false = parse-sized (k.kept ++ q) (bytes-append k.kept q (kept-bytes x b) d)

module _ {s c q p s' c' p' : List ℕ} {r : Result Fed Turned} (f : FedAs s c q p r s' c' p') {σ₀ : State} {rs : List Request} {bs : List ℕ}
    (g : Grown s σ₀ rs bs) (b : Bytes c) (d : Bytes q) where
  -- the requests that it completed
  grow-fed : NotTurned (fed_says r) → Grown s' σ₀ (rs ++ completed_of f.carry q) (bs ++ take (replies_in (fed_says r)) p')
  grow-fed t =
      let l = goes-lent r f t in
      let k = l.carry in
      let σ : State = (run σ₀ rs).state in
      let n : ℕ = replies_in (fed_says r) in
      let x : CarryAs c k = subst (ReadsCarry c) l.carry_is f.carry_is in
      let w = (goes_on r g.holds g.long x f t).went in
      let e : feed_on σ k q ≡ flow (feed_on σ k q).carry (run σ (completed_of (carries k) q)) = feed-runs σ k q in
      subst (λ (y : Carried). Grown s' σ₀ (rs ++ completed_of y q) (bs ++ take n p')) (sym l.carry_is)
      (grow (completed_of (carries k) q) g (fed-narrow q k x b d)
      (subst (Holds s') (ap (λ (y : Flow). y.state) e) w.holds)
      (w.told ∙ ap (λ (y : Flow). encode_all y.replies) e)
      (let h = g.long in omega (arith, w.same_length)))

  -- none: it was turned away
  grow-none : s' ≡ s → Grown s' σ₀ (rs ++ []) (bs ++ [])
  grow-none e =
      subst (λ (l : List Request). Grown s' σ₀ l (bs ++ [])) (sym (append-nil rs))
      (subst (λ (l : List ℕ). Grown s' σ₀ rs l) (sym (append-nil bs)) (subst (λ (x : List ℕ). Grown x σ₀ rs bs) (sym e) g))

-- a feed that was turned away leaves the store as it was
unfed_same : (v : Verdict Onward) (n d : ℕ) (a : Said) (s s' c c' p p' : List ℕ) → FollowsFeed v a s s' c c' p p' → a ≡ turned n d → s' ≡ s
unfed_same (turned_away_by m e) n d a s s' c c' p p' h r = h.1
unfed_same (done w bs) n d a s s' c c' p p' h r = absurd (goes-not w.carry (length bs) (sym h.0 ∙ r))

grow-either : {s c q p s' c' p' : List ℕ} (r : Result Fed Turned) (f : FedAs s c q p r s' c' p') {σ₀ : State} {rs : List Request} {bs : List ℕ}
    → Grown s σ₀ rs bs → Bytes c → Bytes q → (a : Said) → fed_says r ≡ a
    → Grown s' σ₀ (rs ++ carried_out a (completed_of f.carry q)) (bs ++ take (replies_in a) p')
grow-either {q = q} {s' = s'} {p' = p'} r f {σ₀} {rs} {bs} g b d (gave n) e =
    subst (λ (a : Said). Grown s' σ₀ (rs ++ completed_of f.carry q) (bs ++ take (replies_in a) p')) e (grow-fed f g b d (subst NotTurned (sym e) tt))
grow-either {q = q} {s' = s'} {p' = p'} r f {σ₀} {rs} {bs} g b d (halted n i) e =
    subst (λ (a : Said). Grown s' σ₀ (rs ++ completed_of f.carry q) (bs ++ take (replies_in a) p')) e (grow-fed f g b d (subst NotTurned (sym e) tt))
grow-either {s} {c} {q} {p} {s'} {c'} {p'} r f g b d (turned n i) e =
    grow-none f g b d (unfed_same (feed f.store f.carry q (length p)) n i (fed_says r) s s' c c' p p' f.leaves e)

pub grown : {s : List ℕ} {σ₀ : State} {rs : List Request} {bs : List ℕ} → Chain s σ₀ rs bs → Grown s σ₀ rs bs
unfolding run encode_all
grown (start {settings = settings} c) =
    let b = begun c in record { sound = empty-sound (limits_made settings) b.fine; narrow = tt; holds = b.holds; told = refl; long = b.long }
grown (accepted h b c) = grow-called (grown h) b c
grown (refused {s = s} {q = q} {p = p} {s' = s'} {p' = p'} {r = r} {σ₀ = σ₀} {rs = rs} {bs = bs} n d h c e) =
    subst (λ (x : List ℕ). Grown x σ₀ rs bs) (sym (refused_same (call c.store q (length p)) n d (ran_says r) s s' p p' c.leaves e)) (grown h)
grown (fed {r = r} h b d f) = grow-either r f (grown h) b d (fed_says r) refl

pub chain_keeps : {s : List ℕ} {σ₀ : State} {rs : List Request} {bs : List ℕ} → Chain s σ₀ rs bs → Kept s σ₀ rs bs
chain_keeps {s} {σ₀} {rs} {bs} c =
    let g = grown c in
    let r : ReadAs rs bs (history σ₀ rs) = rw g.told (history-read σ₀ rs g.sound g.narrow) in
    record { grown = g; read = r; only = λ h k. reading-once k r; demand = demand_3_run σ₀ rs g.sound g.narrow }

-- ---- the full insert of demand 3, wherever in a chain it stands, also in the middle of a call

told-within : (σ : State) (a : List Request) (r : Request) (b : List Request) → let τ = (run σ a).state in
    encode_all (run σ (a ++ r ∷ b)).replies ≡ encode_all (run σ a).replies ++ (encode_all (apply τ r).replies ++ encode_all (run (apply τ r).state b).replies)
unfolding run
told-within σ a r b =
    let τ = (run σ a).state in
    ap (λ (o : Outcome). encode_all o.replies) (run-append σ a (r ∷ b))
    ∙ encode-append (run σ a).replies ((apply τ r).replies ++ (run (apply τ r).state b).replies)
    ∙ ap (λ (l : List ℕ). encode_all (run σ a).replies ++ l) (encode-append (apply τ r).replies (run (apply τ r).state b).replies)

pub full_within : (a : List Request) (k v : ℕ) (b : List Request) {s bs : List ℕ} {σ₀ : State} {rs : List Request} → Chain s σ₀ rs bs
    → rs ≡ a ++ IN k v ∷ b → FullWithin σ₀ a k v b bs
full_within a k v b {s} {bs} {σ₀} {rs} c e =
    let g = grown c in
    let z : AllNarrow (a ++ IN k v ∷ b) = subst AllNarrow e g.narrow in
    record {
      before = (run σ₀ a).state;
      before_is = refl;
      full = (demand_3_run σ₀ a g.sound (every-left Narrow a (IN k v ∷ b) z)).full k v;
      told = g.told ∙ ap (λ (l : List Request). encode_all (run σ₀ l).replies) e ∙ told-within σ₀ a (IN k v) b;
    }
