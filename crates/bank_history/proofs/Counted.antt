-- What the columns of an open transaction count, by the history: its recovery attempts, and the clock of its last fitting
-- request.
use Prim.Native.Nat.{ℕ, ◌+◌, ◌<◌}
use mathlib.Core.Bool.{Bool, true, false, ◌||◌}
use mathlib.Core.List.{List, [], ◌∷◌}
use mathlib.Core.Path.{◌≡◌, refl, sym, ap, ◌∙◌, subst}
use native.Mathlib.Omega.{arith}
use lib.ListN.{length, get_or, set}
use Rattle.frame_table.specs.declared.fields.Bits128.{Bits128}
use Rattle.frame_table.specs.declared.fields.Fields.{Fields}
use Rattle.frame_table.specs.Names.{subscriber, transaction, same_bits}
use Rattle.frame_reader.specs.Reader.{read_request}
use Rattle.frame_row.specs.Row.{data_of}
use Rattle.octets.specs.Bytes.{number}
use Rattle.octets.proofs.Tests.{never}
use Rattle.bank_state.specs.declared.clock.Ended.{Ended}
use Rattle.bank_state.specs.declared.state.Download.{Download}
use Rattle.bank_state.specs.declared.state.Place.{Place}
use Rattle.bank_state.specs.declared.state.Use.{Use}
use Rattle.bank_state.specs.declared.state.Use.TheVariants.{Free, Open, Booked}
use Rattle.bank_state.specs.Clock.{advanced, end_downloads}
use Rattle.bank_state.specs.Limits.{place_count}
use Rattle.bank_state.specs.Search.{is_free, is_open, free_place, free_download}
use Rattle.bank_state.specs.State.{BankState, no_place, no_download, fresh, place_at, download_at}
use Rattle.bank_state.proofs.Drops.{each-end_downloads}
use Rattle.bank_state.proofs.Found.{upload-found, download-found}
use Rattle.bank_openings.specs.Openings.{counted, counted_upload, open_upload, open_download}
use Rattle.bank_verdicts.specs.declared.verdict.UploadAction.{UploadAction}
use Rattle.bank_verdicts.specs.declared.verdict.UploadAction.TheVariants as up
use Rattle.bank_verdicts.specs.declared.verdict.DownloadAction.{DownloadAction}
use Rattle.bank_verdicts.specs.declared.verdict.DownloadAction.TheVariants as down
use Rattle.bank_verdicts.specs.declared.verdict.Action.{Action}
use Rattle.bank_verdicts.specs.declared.verdict.Action.TheVariants as action
use Rattle.bank_verdicts.specs.declared.verdict.Verdict.{Verdict}
use Rattle.bank_verdicts.specs.declared.verdict.Verdict.TheVariants as verdict
use Rattle.bank_verdicts.specs.Judgement.{transaction_of, opening_number, upload_at, download_of, order_at, signed}
use Rattle.bank_signing.specs.Signings.{sign}
use Rattle.bank_uploads.specs.Uploads.{grown, booked, attempted, place_after}
use Rattle.bank_steps.specs.Steps.{on_upload, download_acts, carry_out}
use Rattle.bank.specs.Call.{context_of, respond}
use Rattle.bank_history.specs.History.{Exchange, Past, BankCall, Stands, newest, older, ActionIn, is_action, is_opening, is_taking, is_delivery, did, ever, times, exchange_of, start, past_of}
use Rattle.bank_admitted.specs.State.{Sizes}
use Rattle.bank_history.specs.Invariant.{Invariant}
use Rattle.bank_steps.proofs.Cases.{Happens, unreadable, refused, opens_upload, opens_download, signs, to_upload, to_download, upload-acts, happens}
use Rattle.bank_history.proofs.GoesOn.{upload-goes-on, download-goes-on}
use Rattle.bank_admitted.proofs.Clock.{each-advanced, each-download}
use Rattle.bank_history.proofs.Clock.{advanced-keeps}
use Rattle.bank_history.proofs.Downloads.{download-open, downloads-other, places-other}
use Rattle.bank_history.proofs.Entries.{and_no, did_none, did-other, times-own, times-unknown}
use Rattle.bank_history.proofs.Keeps.{past-holds}
use Rattle.bank_history.proofs.Liveness.{by_call}
use Rattle.bank_admitted.proofs.Openings.{free-inside-open}
use Rattle.bank_admitted.proofs.Rows.{each_set, get_d-free}
use Rattle.bank_admitted.proofs.Held.{place-counted}
use Rattle.bank_history.proofs.Uploads.{entry, place_other, download-other}

-- recovery attempts that are answered
abbrev pub is_attempt : Action → Bool
is_attempt (action.Upload (up.Opened n)) = false
is_attempt (action.Upload up.Took) = false
is_attempt (action.Upload up.TookLast) = false
is_attempt (action.Upload (up.Point k)) = true
is_attempt (action.Upload (up.Cancelled c)) = false
is_attempt (action.Download (down.Opened n)) = false
is_attempt (action.Download (down.Delivered n)) = false
is_attempt (action.Download (down.SentAgain n)) = true
is_attempt (action.Download (down.Point d)) = true
is_attempt (action.Download down.Cancelled) = false
is_attempt (action.Download down.Confirmed) = false
is_attempt (action.Download down.Declined) = false

-- requests that fit and leave the transaction open, its opening included
abbrev pub is_fitting : Action → Bool
is_fitting k = is_opening k || (is_taking k || is_delivery k)

-- a fitting request of t came at the clock last
pub record Fitted (t : Bits128) (last : ℕ) (h : List Exchange) : Type 0 where
  pub exchange : Exchange
  pub before : List Exchange
  pub stands : Stands exchange before h
  pub fits : ActionIn is_fitting t exchange
  pub came : exchange.clock ≡ last

pub record Counts (h : List Exchange) (t : Bits128) (attempts last : ℕ) : Type 0 where
  pub tries : times is_attempt t h ≡ attempts
  pub fitted : Fitted t last h

pub record Counted (w : BankState) (h : List Exchange) : Type 0 where
  pub places : (i : ℕ) → i < place_count → is_open (place_at w.bank i).used ≡ true →
      Counts h (place_at w.bank i).transaction (place_at w.bank i).attempts (place_at w.bank i).last
  pub downloads : (j : ℕ) → (download_at w.bank j).used ≡ true →
      Counts h (download_at w.bank j).transaction (download_at w.bank j).attempts (download_at w.bank j).last

-- ---- one exchange more

no-attempt : (t u : Bits128) (k : Action) → is_attempt k ≡ false → did is_attempt t (verdict.Of u k) ≡ false
no-attempt t u k z = rw z (and_no (same_bits t u))

module _ (x : Exchange) (h : List Exchange) (t : Bits128) (a l : ℕ) where
  later : Fitted t l h → Fitted t l (x ∷ h)
  later f = record { exchange = f.exchange; before = f.before; stands = older f.stands; fits = f.fits; came = f.came }

  -- no attempt of t
  kept : did is_attempt t x.verdict ≡ false → Counts h t a l → Counts (x ∷ h) t a l
  unfolding times
  kept none c = record { tries = rw none c.tries; fitted = later c.fitted }

  other : did is_action t x.verdict ≡ false → Counts h t a l → Counts (x ∷ h) t a l
  other none c = kept (did_none is_attempt t x.verdict none) c

  module _ (k : Action) (own : x.verdict ≡ verdict.Of t k) where
    -- an attempt does not refresh
    tried : is_attempt k ≡ true → Counts h t a l → Counts (x ∷ h) t (a + 1) l
    tried z c = record {
      tries = times-own t k x h own is_attempt ∙ rw z (let e = c.tries in omega arith);
      fitted = later c.fitted;
    }

    -- what fits refreshes
    fitting : is_attempt k ≡ false → is_fitting k ≡ true → Counts h t a l → Counts (x ∷ h) t a x.clock
    fitting z y c = record {
      tries = times-own t k x h own is_attempt ∙ rw z c.tries;
      fitted = record { exchange = x; before = h; stands = newest; fits = record { action = k; is = own; kind = y }; came = refl };
    }

    opened : is_attempt k ≡ false → is_fitting k ≡ true → ever is_action t h ≡ false → Counts (x ∷ h) t 0 x.clock
    opened z y new = record {
      tries = times-own t k x h own is_attempt ∙ rw z (times-unknown t is_attempt h new);
      fitted = record { exchange = x; before = h; stands = newest; fits = record { action = k; is = own; kind = y }; came = refl };
    }

pub open-used : (u : Use) → is_open u ≡ true → is_free u ≡ false
open-used Free z = never z
open-used Open z = refl
open-used Booked z = never z

-- ---- clock and drops

advanced-counted : (time : ℕ) (w : BankState) (h : List Exchange) → Sizes w → Counted w h → Counted (advanced time w) h
advanced-counted time w h s c = record {
  places = each-advanced time w (λ (i : ℕ) (p : Place). i < place_count → is_open p.used ≡ true → Counts h p.transaction p.attempts p.last)
      (λ i _ z. never z) s (λ i _. c.places i);
  downloads = each-download time w (λ (e : Download). e.used ≡ true → Counts h e.transaction e.attempts e.last) (λ z. never z)
      (λ j _. c.downloads j);
}

-- ---- a request

module _ (w : BankState) (h : List Exchange) (v : Invariant w h) (c : Counted w h) (q : Fields) (d : List ℕ) where
  abbrev PlaceCounts : List Exchange → Place → Type 0
  PlaceCounts g p = is_open p.used ≡ true → Counts g p.transaction p.attempts p.last

  abbrev DownloadCounts : List Exchange → Download → Type 0
  DownloadCounts g e = e.used ≡ true → Counts g e.transaction e.attempts e.last

  -- nothing happens
  nothing : (x : Exchange) → ((t : Bits128) → did is_action t x.verdict ≡ false) → Counted w (x ∷ h)
  nothing x none = record {
    places = λ i b z. other x h _ _ _ (none _) (c.places i b z);
    downloads = λ j z. other x h _ _ _ (none _) (c.downloads j z);
  }

  -- one place changed, one record changed
  place_set : (g : List Exchange) (i : ℕ) (p : Place) → i < place_count → PlaceCounts g p →
      ((j : ℕ) → (j ≡ i → ⊥) → j < place_count → PlaceCounts g (place_at w.bank j)) → (j : ℕ) → j < place_count →
      PlaceCounts g (get_or (set w.bank.places i p) j no_place)
  place_set g i p inside new others =
      each_set w.bank.places i p no_place (let l = v.state.sizes.places in omega arith)
      (λ (j : ℕ) (r : Place). j < place_count → PlaceCounts g r) (λ _. new) others

  download-set : (g : List Exchange) (i : ℕ) (e : Download) → i < length w.bank.downloads → DownloadCounts g e →
      ((j : ℕ) → (j ≡ i → ⊥) → DownloadCounts g (download_at w.bank j)) → (j : ℕ) →
      DownloadCounts g (get_or (set w.bank.downloads i e) j no_download)
  download-set g i e inside new others =
      each_set w.bank.downloads i e no_download inside (λ (j : ℕ) (r : Download). DownloadCounts g r) new others

  -- ---- an opening: its number is new

  module _ (t : Bits128) (k : Action) (numbered : t.low ≡ w.bank.openings) (x : Exchange) (own : x.verdict ≡ verdict.Of t k) where
    new-id : ever is_action t h ≡ false
    new-id = at (ever is_action t h) refl
      where
        at : (b : Bool) → ever is_action t h ≡ b → b ≡ false
        at false z = refl
        at true z = absurd (let l = v.known t z in omega arith)

    elsewhere : (u : Bits128) → u.low < w.bank.openings → did is_action u x.verdict ≡ false
    elsewhere u l = ap (did is_action u) own ∙ did-other u t k (λ z. omega arith)

    old-place : (j : ℕ) → j < place_count → PlaceCounts (x ∷ h) (place_at w.bank j)
    old-place j b z = other x h _ _ _ (elsewhere _ (place-counted w v.state j b (open-used (place_at w.bank j).used z))) (c.places j b z)

    old-download : (j : ℕ) → DownloadCounts (x ∷ h) (download_at w.bank j)
    old-download j z = other x h _ _ _ (elsewhere _ (download-open w h v j z).0.counted) (c.downloads j z)

  -- ---- a request to the open upload in place i

  module _ (i : ℕ) (inside : i < place_count) (used : (place_at w.bank i).used ≡ Open) where
    abbrev p : Place
    p = place_at w.bank i

    abbrev by : UploadAction → Exchange
    by a = entry (verdict.Of p.transaction (action.Upload a)) w q d

    p-counts : Counts h p.transaction p.attempts p.last
    p-counts = c.places i inside (ap is_open used)

    after-counts : (a : UploadAction) → is_opening (action.Upload a) ≡ false →
        PlaceCounts (by a ∷ h) (place_after a w.bank.clock (length d) p)
    unfolding grown booked attempted
    after-counts (up.Opened m) o = never (sym o)
    after-counts up.Took o = λ _. fitting (by up.Took) h _ _ p.last (action.Upload up.Took) refl refl refl p-counts
    after-counts up.TookLast o = λ z. never z
    after-counts (up.Point k) o = λ _. tried (by (up.Point k)) h _ _ _ (action.Upload (up.Point k)) refl refl p-counts
    after-counts (up.Cancelled e) o = λ z. never z

    upload-counted : (a : UploadAction) → is_opening (action.Upload a) ≡ false → Counted (on_upload a i w d) (by a ∷ h)
    upload-counted a o = record {
      places = place_set (by a ∷ h) i _ inside (after-counts a o)
          (λ j n b z. other (by a) h _ _ _
          (place_other w h v i j (action.Upload a) inside b n (ap is_free used) (open-used (place_at w.bank j).used z)) (c.places j b z));
      downloads = λ j z. other (by a) h _ _ _ (download-other w h v i j (action.Upload a) inside (ap is_free used) z) (c.downloads j z);
    }

  -- ---- a request to the open download of record j

  module _ (inside : download_of w.bank q < length w.bank.downloads) (used : (download_at w.bank (download_of w.bank q)).used ≡ true) where
    abbrev j : ℕ
    j = download_of w.bank q

    abbrev e : Download
    e = download_at w.bank j

    abbrev at : DownloadAction → Exchange
    at a = entry (verdict.Of e.transaction (action.Download a)) w q d

    e-counts : Counts h e.transaction e.attempts e.last
    e-counts = c.downloads j used

    places-stay : (a : DownloadAction) (i : ℕ) → i < place_count → PlaceCounts (at a ∷ h) (place_at w.bank i)
    places-stay a i b z =
        other (at a) h _ _ _ (places-other w h v i j (action.Download a) b (open-used (place_at w.bank i).used z) used) (c.places i b z)

    others-stay : (a : DownloadAction) (i : ℕ) → (i ≡ j → ⊥) → DownloadCounts (at a ∷ h) (download_at w.bank i)
    others-stay a i n z = other (at a) h _ _ _ (downloads-other w h v j i (action.Download a) used z n) (c.downloads i z)

    -- an action that is no attempt counts for none
    ended-stay : (a : DownloadAction) → is_attempt (action.Download a) ≡ false → (which : Ended) (i : ℕ) →
        DownloadCounts (at a ∷ h) (get_or (end_downloads which w.bank.downloads) i no_download)
    ended-stay a n which =
        each-end_downloads (DownloadCounts (at a ∷ h)) (λ z. never z) which w.bank.downloads
        (λ i _ _ z. kept (at a) h _ _ _ (no-attempt (download_at w.bank i).transaction e.transaction (action.Download a) n) (c.downloads i z))

    download-counted : (a : DownloadAction) → is_opening (action.Download a) ≡ false →
        Counted (download_acts a e.transaction w q) (at a ∷ h)
    download-counted (down.Opened n) o = never (sym o)
    download-counted (down.Delivered n) o = record {
      places = places-stay (down.Delivered n);
      downloads = download-set _ j _ inside
          (λ _. fitting (at (down.Delivered n)) h _ _ e.last (action.Download (down.Delivered n)) refl refl refl e-counts)
          (others-stay (down.Delivered n));
    }
    download-counted (down.SentAgain n) o = record {
      places = places-stay (down.SentAgain n);
      downloads = download-set _ j _ inside
          (λ _. tried (at (down.SentAgain n)) h _ _ _ (action.Download (down.SentAgain n)) refl refl e-counts) (others-stay (down.SentAgain n));
    }
    download-counted (down.Point n) o = record {
      places = places-stay (down.Point n);
      downloads = download-set _ j _ inside
          (λ _. tried (at (down.Point n)) h _ _ _ (action.Download (down.Point n)) refl refl e-counts) (others-stay (down.Point n));
    }
    download-counted down.Cancelled o = record { places = places-stay down.Cancelled; downloads = ended-stay down.Cancelled refl _ }
    download-counted down.Confirmed o = record { places = places-stay down.Confirmed; downloads = ended-stay down.Confirmed refl _ }
    download-counted down.Declined o = record { places = places-stay down.Declined; downloads = ended-stay down.Declined refl _ }

  case-counted : (first : ℕ) {u : Verdict} → Happens first w q d u → Counted (carry_out u w q d) (entry u w q d ∷ h)
  unfolding open_upload counted_upload open_download counted sign
  case-counted first unreadable = nothing (entry verdict.Unreadable w q d) (λ t. refl)
  case-counted first (refused r z) = nothing (entry (verdict.Refused r) w q d) (λ t. refl)
  case-counted first (opens_upload asked a g n inside below) =
      let t = transaction_of first w.bank in
      let k = action.Upload (up.Opened (opening_number w.bank q)) in
      let x = entry (verdict.Of t k) w q d in
      record {
        places = place_set (x ∷ h) (free_place w.bank) _ inside (λ _. opened x h t 0 0 k refl refl refl (new-id t k refl x refl))
            (λ j _ b. old-place t k refl x refl j b);
        downloads = old-download t k refl x refl;
      }
  case-counted first (opens_download asked a g n) =
      let t = transaction_of first w.bank in
      let k = action.Download (down.Opened _) in
      let x = entry (verdict.Of t k) w q d in
      record {
        places = old-place t k refl x refl;
        downloads = download-set (x ∷ h) (free_download w.bank) _ (free-inside-open w.bank v.state.sizes.downloads g.of_all)
            (λ _. opened x h t 0 0 k refl refl refl (new-id t k refl x refl)) (λ j _. old-download t k refl x refl j);
      }
  case-counted first (to_upload r a s) =
      let i = upload_at w.bank q in
      let t = (place_at w.bank i).transaction in
      subst (λ (z : BankState). Counted z (entry (verdict.Of t (action.Upload a)) w q d ∷ h)) (sym (upload-acts t s))
      (upload-counted i s.inside (upload-found (subscriber q) (transaction q) (place_at w.bank i) s.found).0 a
      (upload-goes-on s.sound))
  case-counted first (to_download r a s) =
      download-counted (let l = v.state.sizes.downloads in let b = s.inside in omega arith)
      (download-found (subscriber q) (transaction q) _ s.found).0 a (download-goes-on s.sound)
  case-counted first (signs s) =
      let i = order_at w.bank q in
      let x = entry (signed w.bank q) w q d in
      let stays : (j : ℕ) → j < place_count → PlaceCounts (x ∷ h) (place_at w.bank j) = λ j b z. other x h _ _ _ refl (c.places j b z) in
      record {
        places = place_set (x ∷ h) i _ s.signable.inside (stays i s.signable.inside) (λ j _ b. stays j b);
        downloads = λ j z. other x h _ _ _ refl (c.downloads j z);
      }

-- ---- after every list of calls

start-counted : Counted start.bank_state start.history
unfolding start fresh
start-counted = record {
  places = λ i b z. never (sym (ap (λ (p : Place). is_open p.used) (get_d-free no_place place_count i)) ∙ z);
  downloads = λ j z. never (sym (ap (λ (e : Download). e.used) (get_d-free no_download place_count j)) ∙ z);
}

pub past-counted : (calls : List BankCall) → Counted (past_of calls).bank_state (past_of calls).history
unfolding past_of exchange_of respond
past-counted [] = start-counted
past-counted (call ∷ calls) =
    let p = past_of calls in
    let holds = past-holds calls in
    let c = past-counted calls in
    by_call (λ (r : Past). Counted r.bank_state r.history) call p holds c
    (λ a e z.
    let w = advanced a.time p.bank_state in
    let v = advanced-keeps a.time p.bank_state p.history holds.invariant in
    case-counted w p.history v
    (advanced-counted a.time p.bank_state p.history holds.invariant.state.sizes c) (read_request a.frame)
    (data_of a.frame) (number a.ids)
    (happens (context_of a) w (read_request a.frame) (data_of a.frame) v.state.sizes.places
    v.state.sizes.downloads))
    (λ m f e. record { places = c.places; downloads = c.downloads })

-- the bank as the next request is judged
pub judged-counted : (calls : List BankCall) (time : ℕ) → Counted (advanced time (past_of calls).bank_state) (past_of calls).history
judged-counted calls time =
    advanced-counted time (past_of calls).bank_state (past_of calls).history (past-holds calls).invariant.state.sizes (past-counted calls)
