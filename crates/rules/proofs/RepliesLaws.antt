-- The reply bytes alone say which reply belongs to which request: no reply's bytes are the beginning of another's, and each request's replies end with the
-- first one that tells of no pair pushed out.
-- Assumes nothing.
use Prim.Native.Nat.{ℕ, ◌*◌, ◌≤◌, ◌<◌}
use native.Mathlib.Omega.{arith}
use mathlib.Core.Path.{◌≡◌, refl, sym, ap, ap₂, ◌∙◌}
use mathlib.Core.Logic.{inl, inr}
use mathlib.Core.Bool.{true, false, cond}
use mathlib.Core.List.{List, [], ◌∷◌, ◌++◌, append_assoc, map}
use lib.Dec.{eqb, leb}
use lib.ListN.{length, drop}
use lib.Seq.{drop-append_seam}
use borrow.Author.Tests.{leb-false}
use Rattle.cells.specs.Cells.{le}
use Rattle.cells.specs.Members.{Every}
use Rattle.cells.proofs.MembersLaws.{every_append}
use Rattle.rules.specs.Parts.{pop_tail}
use Rattle.rules.specs.State.{Entry, State, Queue, Small, Main, max_freq, most, words, queue_of, cool, set_ghosts, over_all, wide, warmth}
use Rattle.rules.specs.State.{Place, nowhere, here, place, Sound}
use Rattle.rules.specs.Records.{Request, GT, PK, RM, IN, EV, CL, Reply, MI, OK, HI, RE, NW, GO, EX, ES, EM, AllNarrow}
use Rattle.rules.specs.Ghosts.{Removed, remove_ghost}
use Rattle.rules.specs.Eviction.{tell, Evicted, evict_if_full}
use Rattle.rules.specs.Requests.{run, apply, on_get, on_peek, on_remove, on_insert, on_new, on_evict_one, first_queue}
use Rattle.rules.specs.Bytes.{bytes_of, encode, encode_all}
use Rattle.rules.specs.Ledger.{Answered, history, replies_of}
use Rattle.rules.specs.Replies.{of_pushed, OneAnswer, closing, pushed, NarrowReply, Formed, ReadAs}
use Rattle.rules.proofs.PartsLaws.{bit_no, pop_law}
use Rattle.rules.proofs.StateLaws.{pop_total, put-total, back_total, Places, place_law}
use Rattle.rules.proofs.SoundLaws.{broad, walk-total, Roomy, roomy_law, Ends, first_ends, apply-sound, warmth-most}
use Rattle.rules.proofs.LedgerLaws.{history-replies}
use Rattle.rules.proofs.TripLaws.{bytes-length, le-after}
use Rattle.rules.proofs.RoomLaws.{size, encode-length}

-- ---- the first reply of some bytes, and what stands behind it

abbrev picked : ℕ → ℕ → List ℕ → Reply × List ℕ
picked a b t =
    cond (eqb a 77) (MI, t)
    (cond (eqb a 79) (OK, t)
    (cond (eqb a 72) (HI (le 8 t 0), drop 8 t)
    (cond (eqb a 82) (RE (le 8 t 0), drop 8 t)
    (cond (eqb a 78) (NW (le 8 t 0), drop 8 t)
    (cond (eqb a 71) (GO (le 8 t 0), drop 8 t)
    (cond (eqb b 88) (EX (le 8 t 0) (le 8 t 8), drop 8 (drop 8 t))
    (cond (eqb b 83) (ES (le 8 t 0) (le 8 t 8), drop 8 (drop 8 t))
    (EM (le 8 t 0) (le 8 t 8), drop 8 (drop 8 t)))))))))

abbrev front : List ℕ → Reply × List ℕ
front [] = (MI, [])
front (a ∷ []) = (MI, [])
front (a ∷ b ∷ t) = picked a b t

drop-number : (v : ℕ) (x : List ℕ) → drop 8 (bytes_of 8 v ++ x) ≡ x
drop-number v x = ap (λ (n : ℕ). drop n (bytes_of 8 v ++ x)) (sym (bytes-length 8 v)) ∙ drop-append_seam (bytes_of 8 v) x

one_number : (f : ℕ → Reply) (v : ℕ) (x : List ℕ) → v < words
    → ◌≡◌ {A = Reply × List ℕ} (f (le 8 (bytes_of 8 v ++ x) 0), drop 8 (bytes_of 8 v ++ x)) (f v, x)
one_number f v x h = ap₂ (λ (n : ℕ) (l : List ℕ). (f n, l)) (le-after [] 8 v x h) (drop-number v x)

two-numbers : (f : ℕ → ℕ → Reply) (k v : ℕ) (x t : List ℕ) → (k < words) × (v < words) → t ≡ (bytes_of 8 k ++ bytes_of 8 v) ++ x
    → ◌≡◌ {A = Reply × List ℕ} (f (le 8 t 0) (le 8 t 8), drop 8 (drop 8 t)) (f k v, x)
two-numbers f k v x t h e =
    let g : t ≡ bytes_of 8 k ++ (bytes_of 8 v ++ x) = e ∙ append_assoc (bytes_of 8 k) (bytes_of 8 v) x in
    let second : le 8 t 8 ≡ v =
    ap₂ (le 8) g (sym (bytes-length 8 k)) ∙ le-after (bytes_of 8 k) 8 v x h.1 in
    let behind : drop 8 (drop 8 t) ≡ x = ap (λ (l : List ℕ). drop 8 (drop 8 l)) g ∙ ap (drop 8) (drop-number k (bytes_of 8 v ++ x)) ∙ drop-number v x in
    ap (λ (n : ℕ). (f n (le 8 t 8), drop 8 (drop 8 t))) (ap (λ (l : List ℕ). le 8 l 0) g ∙ le-after [] 8 k (bytes_of 8 v ++ x) h.0)
    ∙ ap₂ (λ (n : ℕ) (l : List ℕ). (f k n, l)) second behind

front-encode : (r : Reply) (x : List ℕ) → NarrowReply r → front (encode r ++ x) ≡ (r, x)
front-encode MI x h = refl
front-encode OK x h = refl
front-encode (HI v) x h = one_number HI v x h
front-encode (RE v) x h = one_number RE v x h
front-encode (NW v) x h = one_number NW v x h
front-encode (GO v) x h = one_number GO v x h
front-encode (EX k v) x h = two-numbers EX k v x ((bytes_of 8 k ++ bytes_of 8 v) ++ x) h refl
front-encode (ES k v) x h = two-numbers ES k v x ((bytes_of 8 k ++ bytes_of 8 v) ++ x) h refl
front-encode (EM k v) x h = two-numbers EM k v x ((bytes_of 8 k ++ bytes_of 8 v) ++ x) h refl

-- no reply's bytes are the beginning of another's
pub encode-first : (a b : Reply) (x y : List ℕ) → NarrowReply a → NarrowReply b → encode a ++ x ≡ encode b ++ y → (a ≡ b) × (x ≡ y)
encode-first a b x y h g e =
    let p : ◌≡◌ {A = Reply × List ℕ} (a, x) (b, y) = sym (front-encode a x h) ∙ ap front e ∙ front-encode b y g in
    (ap (λ (q : Reply × List ℕ). q.0) p, ap (λ (q : Reply × List ℕ). q.1) p)

some_bytes : (r : Reply) (l : List Reply) → encode_all (r ∷ l) ≡ [] → ⊥
some_bytes r l e = omega (arith, ap length e, encode-length (r ∷ l), size-some r)
  where
    size-some : (r : Reply) → 2 ≤ size r
    size-some MI = omega arith
    size-some OK = omega arith
    size-some (HI v) = omega arith
    size-some (RE v) = omega arith
    size-some (NW v) = omega arith
    size-some (GO v) = omega arith
    size-some (EX k v) = omega arith
    size-some (ES k v) = omega arith
    size-some (EM k v) = omega arith

-- so bytes are the bytes of one list of replies
pub encode-once : (a b : List Reply) → Every NarrowReply a → Every NarrowReply b → encode_all a ≡ encode_all b → a ≡ b
unfolding encode_all
encode-once [] [] h g e = refl
encode-once [] (s ∷ b) h g e = absurd (some_bytes s b (sym e))
encode-once (r ∷ a) [] h g e = absurd (some_bytes r a e)
encode-once (r ∷ a) (s ∷ b) h g e =
    let f = encode-first r s (encode_all a) (encode_all b) h.0 g.0 e in
    ap₂ (λ (x : Reply) (l : List Reply). x ∷ l) f.0 (encode-once a b h.1 g.1 f.1)

-- ---- which of them belong to one request

answer-first : {a b : List Reply} (x y : List Reply) → OneAnswer a → OneAnswer b → a ++ x ≡ b ++ y → (a ≡ b) × (x ≡ y)
answer-first x y (closing f) (closing g) e = (cc, cc)
answer-first x y (closing {r = r} f) (pushed {p = p} g k) e =
    let w : r ≡ p = cc in let n : false ≡ true = sym f ∙ ap of_pushed w ∙ g in let z : ◌≡◌ {A = ℕ} 0 1 = cc in absurd (omega arith)
answer-first x y (pushed {p = p} g k) (closing {r = r} f) e =
    let w : p ≡ r = cc in let n : true ≡ false = sym g ∙ ap of_pushed w ∙ f in let z : ◌≡◌ {A = ℕ} 0 1 = cc in absurd (omega arith)
answer-first x y (pushed f g) (pushed h k) e = (cc, cc)

narrow-joined : (h : List Answered) → Every Formed h → Every NarrowReply (replies_of h)
narrow-joined [] f = tt
narrow-joined (a ∷ h) f = every_append NarrowReply a.replies (replies_of h) f.0.1 (narrow-joined h f.1)

abbrev asking : Answered → Request
asking a = a.request

answers-once : (g h : List Answered) → Every Formed g → Every Formed h → map asking g ≡ map asking h → replies_of g ≡ replies_of h → g ≡ h
answers-once [] [] f k e d = refl
answers-once [] (b ∷ h) f k e d = let z : ◌≡◌ {A = ℕ} 0 1 = cc in absurd (omega arith)
answers-once (a ∷ g) [] f k e d = let z : ◌≡◌ {A = ℕ} 0 1 = cc in absurd (omega arith)
answers-once (a ∷ g) (b ∷ h) f k e d =
    let w = answer-first (replies_of g) (replies_of h) f.0.0 k.0.0 d in
    let same : a.request ≡ b.request = cc in
    let more : map asking g ≡ map asking h = cc in
    ap₂ (λ (x : Answered) (l : List Answered). x ∷ l)
    (ap₂ (λ (q : Request) (l : List Reply). record { request = q; replies = l }) same w.0)
    (answers-once g h f.1 k.1 more w.1)

-- requests and reply bytes leave one reading
pub reading-once : {rs : List Request} {bs : List ℕ} {g h : List Answered} → ReadAs rs bs g → ReadAs rs bs h → g ≡ h
reading-once {rs} {bs} {g} {h} a b =
    answers-once g h a.formed b.formed (a.asked ∙ sym b.asked)
    (encode-once (replies_of g) (replies_of h) (narrow-joined g a.formed) (narrow-joined h b.formed) (a.told ∙ sym b.told))

-- ---- the history of a run is such a reading

-- of replies alone
abbrev Spoke : List Reply → Type 0
Spoke l = OneAnswer l × Every NarrowReply l

-- what eviction says, and how a request's replies end
data Pushes : List Reply → Type 0 where
  none : Pushes []
  one : {p : Reply} → of_pushed p ≡ true → NarrowReply p → Pushes (p ∷ [])

data Closes : List Reply → Type 0 where
  closes : {r : Reply} → of_pushed r ≡ false → NarrowReply r → Closes (r ∷ [])

formed : {a b : List Reply} → Pushes a → Closes b → Spoke (a ++ b)
formed none (closes c n) = (closing c, (n, tt))
formed (one p m) (closes c n) = (pushed p c, (m, (n, tt)))

alone : {b : List Reply} → Closes b → Spoke b
alone c = formed none c

-- no resident has a wide number
abbrev Slim : State → Type 0
Slim σ = over_all broad σ ≡ 0

narrow-of : (n : ℕ) → wide n ≡ 0 → n < words
narrow-of n h = leb-false words n (bit_no (leb words n) h)

entry-narrow : (e : Entry) → broad e ≡ 0 → (e.key < words) × (e.value < words)
entry-narrow e h = (narrow-of e.key (omega arith), narrow-of e.value (omega arith))

blind : (q : Queue) (e : Entry) → broad (cool q e) ≡ broad e
blind Small e = refl
blind Main e = refl

tell_pushes : (q : Queue) (e : Entry) → broad e ≡ 0 → Pushes (tell q e ∷ [])
tell_pushes Small e h = one refl (entry-narrow e h)
tell_pushes Main e h = one refl (entry-narrow e h)

roomy_pushes : {σ : State} {w : Evicted} → Slim σ → Roomy σ w → Pushes w.told
roomy_pushes {σ} {w} z (inl h) = rw h.1 none
roomy_pushes {σ} {w} z (inr h) =
    rw h.1.told_is (tell_pushes h.1.queue h.1.entry (omega (arith, walk-total broad blind h.1.walk)))

roomy_slim : {σ : State} {w : Evicted} → Slim σ → Roomy σ w → Slim w.state
roomy_slim {σ} {w} z (inl h) = rw h.1 z
roomy_slim {σ} {w} z (inr h) = omega (arith, walk-total broad blind h.1.walk)

roomy_pops : {σ : State} {w : Evicted} → warmth σ ≤ max_freq * most → Roomy σ w → w.pops < words
roomy_pops {σ} {w} z (inl h) = rw h.1 (omega arith)
roomy_pops {σ} {w} z (inr h) = omega (arith, h.1.few)

found-narrow : (q : Queue) (b : List Entry) (e : Entry) (a : List Entry) (σ : State) → queue_of q σ ≡ b ++ (e ∷ a) → Slim σ → e.value < words
found-narrow q b e a σ h z = (entry-narrow e (omega (arith, put-total broad q b e [] a σ h))).1

place-formed : (k : ℕ) (σ : State) (p : Place) → Places k σ p → Slim σ
    → Spoke (on_get σ p).replies × Spoke (on_peek σ p).replies × Spoke (on_remove σ p).replies
unfolding on_get on_peek on_remove
place-formed k σ nowhere h z = (alone (closes refl tt), alone (closes refl tt), alone (closes refl tt))
place-formed k σ (here q b e a) h z =
    let n = found-narrow q b e a σ h.0 z in (alone (closes refl n), alone (closes refl n), alone (closes refl n))

new-formed : (k v : ℕ) (σ : State) (w : Removed) → Sound σ → Slim σ → Spoke (on_new k v σ w).replies
unfolding on_new
new-formed k v σ w s z =
    let τ = set_ghosts w.ghosts σ in
    let r = roomy_law τ s.fine in
    formed (roomy_pushes z r) (closes refl (roomy_pops (warmth-most σ s) r))

insert_formed : (k v : ℕ) (σ : State) (p : Place) → Places k σ p → Sound σ → Slim σ → Spoke (on_insert k v σ p).replies
unfolding on_insert
insert_formed k v σ nowhere h s z = new-formed k v σ (remove_ghost k σ.ghosts) s z
insert_formed k v σ (here q b e a) h s z = alone (closes refl (found-narrow q b e a σ h.0 z))

closes-ends : Ends (λ σ o. Slim σ → Closes o.replies)
closes-ends =
    record {
      none = λ σ z. closes refl tt;
      handed = λ q r e σ h z. closes refl (entry-narrow e (omega (arith, pop_total broad q r e σ h)));
      sent = λ q r e σ h l z. l (omega (arith, back_total broad q r e σ h, blind q e));
    }

evict-one-formed : (σ : State) (w : Evicted) → Roomy σ w → Slim σ → Spoke (on_evict_one w).replies
unfolding on_evict_one
evict-one-formed σ w r z =
    let τ = w.state in
    let q = first_queue τ in
    formed (roomy_pushes z r) (first_ends closes-ends q τ (pop_tail (queue_of q τ)) (pop_law (queue_of q τ)) (roomy_slim z r))

apply-formed : (σ : State) (r : Request) → Sound σ → Spoke (apply σ r).replies
unfolding apply
apply-formed σ (GT k) s = (place-formed k σ (place k σ) (place_law k σ) (omega (arith, s.narrow))).0
apply-formed σ (PK k) s = (place-formed k σ (place k σ) (place_law k σ) (omega (arith, s.narrow))).1
apply-formed σ (RM k) s = (place-formed k σ (place k σ) (place_law k σ) (omega (arith, s.narrow))).2
apply-formed σ (IN k v) s = insert_formed k v σ (place k σ) (place_law k σ) s (omega (arith, s.narrow))
apply-formed σ EV s = evict-one-formed σ (evict_if_full σ) (roomy_law σ s.fine) (omega (arith, s.narrow))
apply-formed σ CL s = alone (closes refl tt)

history-formed : (σ : State) (rs : List Request) → Sound σ → AllNarrow rs → Every Formed (history σ rs)
unfolding history
history-formed σ [] s z = tt
history-formed σ (r ∷ rs) s z = (apply-formed σ r s, history-formed (apply σ r).state rs (apply-sound σ r z.0 s) z.1)

history-asked : (σ : State) (rs : List Request) → map asking (history σ rs) ≡ rs
unfolding history
history-asked σ [] = refl
history-asked σ (r ∷ rs) = ap (λ l. r ∷ l) (history-asked (apply σ r).state rs)

pub history-read : (σ : State) (rs : List Request) → Sound σ → AllNarrow rs → ReadAs rs (encode_all (run σ rs).replies) (history σ rs)
history-read σ rs s z =
    record { asked = history-asked σ rs; formed = history-formed σ rs s z; told = ap encode_all (history-replies σ rs) }
