-- The nonces that the bank remembers are those of the openings and signings that the replies say were accepted: one that
-- none of them has is not found, and there is room exactly while they are fewer than 64. By the invariant. Assumes nothing.
use Prim.Native.Nat.{ℕ, zero, suc, ◌+◌, ◌-◌, ◌≤◌, ◌<◌}
use mathlib.Core.Bool.{Bool, true, false, cond, not, ◌&&◌, ◌||◌}
use mathlib.Core.List.Memᴰ.{eq_of_singleton as in_one}
use mathlib.Core.List.Memᴰ.{head as here}
use mathlib.Core.List.Memᴰ.{not-nil as in-none}
use mathlib.Core.List.Memᴰ.{tail as there}
use mathlib.Core.List.{
  List,
  [],
  ◌∷◌,
  ◌++◌,
  Memᴰ as In,
}
use mathlib.Core.Logic.{◌⊎◌, inl, inr}
use mathlib.Core.Path.{◌≡◌, refl, sym, ap, ◌∙◌, subst}
use native.Mathlib.Omega.{arith}
use lib.Dec.{ltb, leb}
use lib.ListN.{length, get_or, replicate, length-append}
use borrow.Author.Tests.{ltb-true, le-leb, lt-leb, leb-false}
use Rattle.frame_table.specs.declared.fields.Fields.{Fields}
use Rattle.frame_table.specs.Names.{nonce, timestamp, same_bits}
use Rattle.frame_table.proofs.Bits.{bits-same}
use Rattle.octets.proofs.Tests.{never, and-true, or_right}
use Rattle.message.specs.Codes.{code_field}
use Rattle.bank_state.specs.Limits.{nonce_count, window}
use Rattle.bank_state.specs.Rows.{first_of, count_of, keep}
use Rattle.bank_state.specs.Search.{free_nonce, is_remembered}
use Rattle.bank_state.specs.State.{Nonce, BankState, no_nonce}
use Rattle.bank_state.proofs.Rows.{first_passes, keep_append}
use Rattle.bank_verdicts.specs.declared.verdict.Verdict.{Verdict}
use Rattle.bank_verdicts.specs.declared.verdict.Verdict.TheVariants as verdict
use Rattle.bank_verdicts.specs.Refusals.{in_time, is_replay, no_memory}
use Rattle.bank_admitted.proofs.Rows.{first-at-most, get_d-free}
use Rattle.bank_history.specs.History.{
  Exchange,
  Stands,
  newest,
  older,
  BankCall,
  past_of,
  opens,
  remembers,
  nonce_of,
  opening_nonces,
  remembered,
}
use Rattle.bank_history.specs.Signatures.{is_signed}
use Rattle.bank_history.specs.Opened.{is_opened}
use Rattle.bank_history.specs.FalseEconomies.{Next}
use Rattle.bank_history.specs.Timely.{is_kept, Timely}
use Rattle.bank_history.proofs.ByReplies.{coded, is-opened}
use Rattle.bank_history.proofs.Counts.{unit}
use Rattle.bank_history.proofs.Drops.{keep-in, in_either}
use Rattle.bank_history.proofs.NextCall.{judged_bank, asked, request-is, clock-is, judged-holds}
use Rattle.bank_history.proofs.Positions.{sound-at, signing-sound}
use Rattle.bank_history.proofs.Replies.{verdict_code}
use Rattle.bank_history.proofs.SignedHistory.{signed-signs, signs-signed}
use Rattle.bank_history.proofs.SignedVerdicts.{all-signed}
use Rattle.bank_history.proofs.Theorems.{history-sound}

-- ---- a row with free records behind

-- a record in use is one of those in front
used-in : (l : List Nonce) (k j : ℕ) → (get_or (l ++ replicate k no_nonce) j no_nonce).used ≡ true →
    In (get_or (l ++ replicate k no_nonce) j no_nonce) l
used-in [] k j z = never (sym (ap (λ (x : Nonce). x.used) (get_d-free no_nonce k j)) ∙ z)
used-in (x ∷ l) k zero z = here refl
used-in (x ∷ l) k (suc j) z = there (used-in l k j z)

front-in : (l m : List Nonce) (j : ℕ) → j < length l → In (get_or (l ++ m) j no_nonce) l
front-in [] m j a = absurd (omega arith)
front-in (x ∷ l) m zero a = here refl
front-in (x ∷ l) m (suc j) a = there (front-in l m j (omega arith))

free-at : (l : List Nonce) (k : ℕ) → get_or (l ++ replicate k no_nonce) (length l) no_nonce ≡ no_nonce
free-at [] k = get_d-free no_nonce k 0
free-at (x ∷ l) k = free-at l k

-- ---- the nonces of a history

-- the exchange that a nonce is remembered for
abbrev From : Nonce → List Exchange → Type 0
From x h = (f : Exchange) × (g : List Exchange) × Stands f g h × (remembers f.verdict ≡ true) × (x ≡ nonce_of f)

nonce-from : {x : Nonce} (h : List Exchange) → In x (opening_nonces h) → From x h
unfolding opening_nonces
nonce-from [] i = absurd (in-none i)
nonce-from {x} (e ∷ h) i = at (remembers e.verdict) refl i (nonce-from h)
  where
    later : From x h → From x (e ∷ h)
    later (f, g, p, r, z) = (f, g, older p, r, z)

    by : remembers e.verdict ≡ true → (In x (opening_nonces h) → From x h) →
        In x (opening_nonces h) ⊎ In x (nonce_of e ∷ []) → From x (e ∷ h)
    by r old (inl j) = later (old j)
    by r old (inr j) = (e, h, newest, r, in_one j)

    at : (b : Bool) → remembers e.verdict ≡ b → In x (cond b (opening_nonces h ++ (nonce_of e ∷ [])) (opening_nonces h)) →
        (In x (opening_nonces h) → From x h) → From x (e ∷ h)
    at true r j old = by r old (in_either (opening_nonces h) (nonce_of e ∷ []) j)
    at false r j old = later (old j)

-- what the replies say of the exchanges of a history is what their verdicts say
abbrev Told : List Exchange → Type 0
Told h = (f : Exchange) (g : List Exchange) → Stands f g h → (is_opened f || is_signed f) ≡ remembers f.verdict

-- as many as the replies say
count_kept : (clock : ℕ) (h : List Exchange) → Told h → length (remembered clock h) ≡ count_of (is_kept clock) h
unfolding remembered opening_nonces keep count_of
count_kept clock [] told = refl
count_kept clock (e ∷ h) told =
    at (remembers e.verdict) (told e h newest) (count_kept clock h (λ f g p. told f g (older p)))
  where
    recent : Nonce → Bool
    recent x = leb clock (x.timestamp + window)

    t : Bool
    t = leb clock (timestamp e.request + window)

    one : (b : Bool) → length (cond b (nonce_of e ∷ []) []) ≡ unit b
    one true = refl
    one false = refl

    at : (b : Bool) → (is_opened e || is_signed e) ≡ b → length (keep recent (opening_nonces h)) ≡ count_of (is_kept clock) h →
        length (keep recent (cond b (opening_nonces h ++ (nonce_of e ∷ [])) (opening_nonces h)))
        ≡ unit (is_kept clock e) + count_of (is_kept clock) h
    at true z old =
        let a = ap length (keep_append recent (opening_nonces h) (nonce_of e ∷ [])) in
        let b = length-append (keep recent (opening_nonces h)) (keep recent (nonce_of e ∷ [])) in
        let c : length (keep recent (nonce_of e ∷ [])) ≡ unit t = one t in
        let d : unit (is_kept clock e) ≡ unit t = ap (λ (b : Bool). unit (b && t)) z in
        omega arith
    at false z old = let d : unit (is_kept clock e) ≡ 0 = ap (λ (b : Bool). unit (b && t)) z in omega arith

-- ---- after every list of calls

module _ (calls : List BankCall) where
  abbrev h : List Exchange
  h = (past_of calls).history

  told : Told h
  told f g p = at (is_signed f) refl
    where
      opens-alone : (v : Verdict) → f.verdict ≡ v → is_signed f ≡ false → opens v ≡ remembers v
      opens-alone verdict.Unreadable own z = refl
      opens-alone (verdict.Refused c) own z = refl
      opens-alone (verdict.Of t k) own z = refl
      opens-alone (verdict.Signed m added) own z = never (sym z ∙ signs-signed f (record {
        asked = (signing-sound (history-sound calls) p own).asked;
        coded = coded (sound-at (history-sound calls) p) ∙ ap (λ (v : Verdict). code_field (verdict_code v)) own;
      }))

      or_no : (b : Bool) → b || false ≡ b
      or_no true = refl
      or_no false = refl

      at : (b : Bool) → is_signed f ≡ b → (is_opened f || is_signed f) ≡ remembers f.verdict
      at true z =
          or_right (is_opened f) (is_signed f) z ∙ sym (ap remembers (all-signed calls f g p (signed-signs f z)).2)
      at false z =
          ap (λ (b : Bool). is_opened f || b) z
          ∙ (or_no (is_opened f) ∙ (is-opened (sound-at (history-sound calls) p) ∙ opens-alone f.verdict refl z))

-- ---- the next call

module _ {calls : List BankCall} {e : Exchange} (n : Next calls e) where
  abbrev past : List Exchange
  past = (past_of calls).history

  abbrev w : BankState
  w = judged_bank n

  abbrev q : Fields
  q = asked n

  -- the nonces remembered, and so many free records behind them
  abbrev front : List Nonce
  front = remembered w.bank.clock past

  abbrev behind : ℕ
  behind = nonce_count - length front

  held : w.bank.nonces ≡ front ++ replicate behind no_nonce
  held = (judged-holds n).memory.held

  kept-count : length front ≡ count_of (is_kept e.clock) past
  kept-count =
      count_kept w.bank.clock past (told calls) ∙ ap (λ (c : ℕ). count_of (is_kept c) past) (sym (clock-is n))

  -- one of them is that of an exchange whose nonce is remembered
  kept_from : {x : Nonce} → In x front →
      (f : Exchange) × (g : List Exchange) × Stands f g past × (is_kept e.clock f ≡ true) × (x ≡ nonce_of f)
  unfolding remembered
  kept_from {x} i =
      let k = keep-in (λ (y : Nonce). leb w.bank.clock (y.timestamp + window)) (opening_nonces past) i in
      let (f, g, p, r, z) = nonce-from past k.0 in
      let recent : leb e.clock (timestamp f.request + window) ≡ true =
      ap (λ (c : ℕ). leb c (timestamp f.request + window)) (clock-is n)
      ∙ (ap (λ (y : Nonce). leb w.bank.clock (y.timestamp + window)) (sym z) ∙ k.1) in
      (f, g, p, (ap (λ (b : Bool). b && leb e.clock (timestamp f.request + window)) (told calls f g p ∙ r) ∙ recent), z)

  -- ---- "timestamp not in time, or nonce remembered"

  not_seen : Timely e past → is_remembered (nonce q) w.bank ≡ false
  unfolding is_remembered
  not_seen t = at (ltb j nonce_count) refl
    where
      test : Nonce → Bool
      test x = x.used && same_bits x.value (nonce q)

      j : ℕ
      j = first_of test w.bank.nonces

      at : (b : Bool) → ltb j nonce_count ≡ b → b ≡ false
      at true z =
          let long = (judged-holds n).state.sizes.nonces in
          let inside = ltb-true j nonce_count z in
          let passes = and-true _ _ (first_passes test w.bank.nonces no_nonce (omega arith)) in
          let found : In (get_or w.bank.nonces j no_nonce) front =
          subst (λ (l : List Nonce). (get_or l j no_nonce).used ≡ true → In (get_or l j no_nonce) front) (sym held)
          (used-in front behind j) passes.0 in
          let (f, g, p, kept, same) = kept_from found in
          absurd (t.unseen f g p kept (ap nonce (request-is n)
          ∙ (sym (bits-same _ (nonce q) passes.1) ∙ ap (λ (x : Nonce). x.value) same)))
      at false z = refl

  pub no-replay : Timely e past → is_replay (judged_bank n).bank (asked n) ≡ false
  unfolding is_replay in_time
  no-replay t =
      let c = clock-is n in
      let s = ap timestamp (request-is n) in
      let a = t.early in
      let b = t.late in
      rw (
        le-leb (timestamp q) (w.bank.clock + window) (omega arith),
        le-leb w.bank.clock (timestamp q + window) (omega arith),
        not_seen t,
      )

  -- ---- "64 nonces remembered"

  pub some-room : count_of (is_kept e.clock) past < nonce_count → no_memory (judged_bank n).bank ≡ false
  unfolding no_memory free_nonce
  some-room few =
      let k = kept-count in
      let long = (judged-holds n).state.sizes.nonces in
      let free : not (get_or w.bank.nonces (length front) no_nonce).used ≡ true =
      ap (λ (l : List Nonce). not (get_or l (length front) no_nonce).used) held ∙ ap (λ (x : Nonce). not x.used) (free-at front behind) in
      let m = first-at-most (λ (x : Nonce). not x.used) w.bank.nonces no_nonce (length front) (omega arith) free in
      lt-leb nonce_count (free_nonce w.bank) (omega arith)

  pub no_room : nonce_count ≤ count_of (is_kept e.clock) past → no_memory (judged_bank n).bank ≡ true
  unfolding no_memory free_nonce
  no_room many = at (leb nonce_count j) refl
    where
      j : ℕ
      j = first_of (λ (x : Nonce). not x.used) w.bank.nonces

      at : (b : Bool) → leb nonce_count j ≡ b → b ≡ true
      at true z = refl
      at false z =
          let k = kept-count in
          let inside = leb-false nonce_count j z in
          let long = (judged-holds n).state.sizes.nonces in
          let free = first_passes (λ (x : Nonce). not x.used) w.bank.nonces no_nonce (omega arith) in
          let found : In (get_or w.bank.nonces j no_nonce) front =
          subst (λ (l : List Nonce). In (get_or l j no_nonce) front) (sym held)
          (front-in front (replicate behind no_nonce) j (omega arith)) in
          let same = (kept_from found).4 in
          never (sym (ap (λ (x : Nonce). not x.used) same) ∙ free)
