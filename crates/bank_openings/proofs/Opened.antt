-- An accepted opening finds room for it, and the bank that it leaves is one that rows can hold. Assumes nothing.
use Prim.Native.Nat.{ℕ, ◌+◌, ◌-◌, ◌<◌}
use mathlib.Core.List.{List}
use mathlib.Core.Bool.{true}
use mathlib.Core.Path.{◌≡◌, refl, sym, ap, ◌∙◌, subst}
use native.Mathlib.Omega.{arith}
use lib.ListN.{set}
use Rattle.frame_table.specs.declared.fields.Bits128.{Bits128}
use Rattle.frame_table.specs.declared.fields.Fields.{Fields}
use Rattle.frame_table.specs.Names.{subscriber, nonce, timestamp}
use Rattle.message.specs.declared.editions.Edition.{Edition}
use Rattle.message.specs.declared.editions.Edition.TheVariants as edition
use Rattle.message.specs.Editions.{edition_of}
use Rattle.bank_state.specs.State.{Bank}
use Rattle.bank_state.specs.declared.state.Download.{Download}
use Rattle.bank_state.specs.declared.state.Place.{Place}
use Rattle.bank_state.specs.Limits.{place_count, nonce_count, max_open}
use Rattle.bank_state.specs.Search.{free_place, free_download, free_nonce, open_count}
use Rattle.bank_state.specs.State.{with_openings, with_series, with_place, with_download, with_nonces}
use Rattle.bank_rows.specs.Records.{bits, nonce_record}
use Rattle.bank_rows.specs.State.{download_count_of, bank_of, stored, Laid, Held}
use Rattle.bank_rows.proofs.Calls.{
  within-own,
  stored-change,
  held-free-download,
  held-free-nonce,
  held-open-downloads,
  held-openings,
  held-series,
  held_place,
  held-download-added,
  held-nonce-added,
}
use Rattle.bank_rows.proofs.Reading.{free-download}
use Rattle.bank_rows.proofs.State.{held_rows, stored_back, stored-laid}
use Rattle.bank_verdicts.specs.declared.verdict.Action.{Action}
use Rattle.bank_verdicts.specs.declared.verdict.Action.TheVariants as action
use Rattle.bank_verdicts.specs.declared.verdict.Context.{Context}
use Rattle.message.specs.declared.directions.Direction.{Direction}
use Rattle.message.specs.declared.directions.Direction.TheVariants as direction
use Rattle.bank_verdicts.specs.declared.verdict.UploadAction.TheVariants as up
use Rattle.bank_verdicts.specs.declared.verdict.Verdict.{Verdict}
use Rattle.bank_verdicts.specs.declared.verdict.Verdict.TheVariants as verdict
use Rattle.bank_verdicts.specs.Judgement.{opening_number, opened_number, judge_opening}
use Rattle.bank_verdicts.proofs.Sound.{OpeningSound, judged-opening}
use Rattle.bank_verdicts.proofs.Sound as sound
use Rattle.bank_openings.specs.Openings.{
  Room,
  UploadRoom,
  DownloadRoom,
  counted,
  moved_by,
  moved,
  fits_series,
  counted_upload,
  new_place,
  open_upload,
  new_download,
  open_download,
}
use Rattle.bank_openings.proofs.Numbering.{number-left, number_fits}

-- ---- an accepted opening

module _ (y : Context) (b : Bank) (q : Fields) (k : Held b) where
  -- fewer than eight transactions are open, so fewer than eight downloads
  few-open : open_count b < max_open → free_download b < place_count
  unfolding open_count
  few-open h = omega (arith, held-open-downloads b k)

  room_by : {t : Bits128} {a : Action} (d : Direction) (v : Verdict) → OpeningSound y.prefix b q d v → v ≡ verdict.Of t a
      → Room d b q
  room_by d v (sound.refused e c h) x = absurd (let z : ◌≡◌ {A = ℕ} 0 1 = cc in omega arith)
  room_by d v (sound.upload acc some free own) x = record {
    place = free;
    memory = acc.memory;
    series = number-left b q own.below;
    numbers = acc.numbers;
  }
  room_by d v (sound.download acc full) x =
      record { place = few-open acc.of_all; memory = acc.memory; series = refl; numbers = acc.numbers }

  -- the verdict on an opening that acts on a transaction is given only where there is room
  pub accepted-room : {t : Bits128} {a : Action} (d : Direction) → judge_opening d y b q ≡ verdict.Of t a → Room d b q
  accepted-room d e = room_by d (judge_opening d y b q) (judged-opening y b q d) e

  opened-by : {t : Bits128} {a : Action} (v : Verdict) → OpeningSound y.prefix b q direction.Upload v → v ≡ verdict.Of t a
      → fits_series (edition_of q) (opened_number a) ≡ true
  opened-by v (sound.refused e c h) x = absurd (let z : ◌≡◌ {A = ℕ} 0 1 = cc in omega arith)
  opened-by {t} {a} v (sound.upload acc some free own) x =
      let e : action.Upload (up.Opened (opening_number b q)) ≡ a = cc in
      subst (λ (z : Action). fits_series (edition_of q) (opened_number z) ≡ true) e (number_fits b q own.below)

  -- and its number fits the series
  pub accepted-fits : {t : Bits128} {a : Action} {n : ℕ} → judge_opening direction.Upload y b q ≡ verdict.Of t a
      → n ≡ opened_number a → fits_series (edition_of q) n ≡ true
  accepted-fits e x = rw x (opened-by (judge_opening direction.Upload y b q) (judged-opening y b q direction.Upload) e)

-- ---- the bank that it leaves

-- the bank with this nonce remembered
abbrev pub noted : Bits128 → ℕ → Bank → Bank
noted v time b = with_nonces (set b.nonces (free_nonce b) (nonce_record v time)) b

module _ (q : Fields) (b : Bank) (k : Held b) where
  module _ (memory : free_nonce b < nonce_count) where
    pub held-noted : Held (noted (nonce q) (timestamp q) b)
    held-noted =
        let e = held-free-nonce b k in
        rw e (held-nonce-added (nonce_record (nonce q) (timestamp q)) k refl (omega arith))

    pub held-counted : Held (counted q b)
    unfolding counted
    held-counted = held-openings (b.openings + 1) held-noted

    held_moved : (e : Edition) (number : ℕ) → Held (with_series (moved_by e number q b.series) (counted q b))
    unfolding counted
    held_moved edition.V24 number = held-counted
    held_moved edition.V25 number = held-series (subscriber q - 1) (number + 1) held-counted

    pub held-counted-upload : (number : ℕ) → Held (counted_upload number q b)
    unfolding counted_upload
    held-counted-upload = held_moved (edition_of q)

  pub held-upload : UploadRoom b q → (t : Bits128) (number : ℕ) → Held (open_upload t number q b)
  unfolding open_upload
  held-upload r t number = held_place (free_place b) (new_place t number b.clock q) (held-counted-upload r.memory number)

  pub held-download : DownloadRoom b q → (t : Bits128) → Held (open_download t q b)
  unfolding open_download counted
  held-download r t =
      let e = held-free-download b k in
      rw e (held-download-added (new_download t b.clock q) (held-counted r.memory) refl (omega (arith, r.place)))

-- ---- the changes of an opening, one after another

module _ (s : List ℕ) (l : Laid s) (q : Fields) where
  abbrev b : Bank
  b = bank_of s

  held : Held b
  held = held_rows s l

  -- the nonce, then the number of openings
  module _ (memory : free_nonce b < nonce_count) (t : List ℕ) (v : Bits128) (time : ℕ) (x : v ≡ nonce q)
      (y : time ≡ timestamp q) (e : t ≡ stored (noted (bits v.high v.low) time b) s) where
    noted-stored : t ≡ stored (noted (nonce q) (timestamp q) b) s
    noted-stored =
        e ∙ ap (λ (w : Bits128). stored (noted (bits w.high w.low) time b) s) x
        ∙ ap (λ (m : ℕ). stored (noted (nonce q) m b) s) y

    pub noted-laid : Laid t
    noted-laid = rw noted-stored (stored-laid (noted (nonce q) (timestamp q) b) (held-noted q b held memory) s l)

    pub counted-stored : (u : List ℕ) (n : ℕ) → n ≡ b.openings → u ≡ stored (with_openings (n + 1) (bank_of t)) t
        → u ≡ stored (counted q b) s
    unfolding counted
    counted-stored u n z f =
        stored-change s l (noted (nonce q) (timestamp q) b) (held-noted q b held memory)
        (with_openings (b.openings + 1)) (held-counted q b held memory) (omega arith) (omega arith) t u noted-stored
        (f ∙ ap (λ (m : ℕ). stored (with_openings (m + 1) (bank_of t)) t) z)

  module _ (d : Direction) (r : Room d b q) (t : List ℕ) (e : t ≡ stored (counted q b) s) where
    held-count : Held (counted q b)
    held-count = held-counted q b held r.memory

    pub counted-laid : Laid t
    counted-laid = rw e (stored-laid (counted q b) held-count s l)

  -- then the series of an upload, and its place
  module _ (r : UploadRoom b q) where
    pub upload-counted : (t : List ℕ) → t ≡ stored (counted q b) s → (u : List ℕ) (number : ℕ)
        → u ≡ stored (with_series (moved number q (bank_of t).series) (bank_of t)) t → u ≡ stored (counted_upload number q b) s
    unfolding counted_upload counted
    upload-counted t e u number f =
        stored-change s l (counted q b) (held-counted q b held r.memory)
        (λ (c : Bank). with_series (moved number q c.series) c)
        (held-counted-upload q b held r.memory number) (omega arith) (omega arith) t u e f

    module _ (number : ℕ) (t : List ℕ) (e : t ≡ stored (counted_upload number q b) s) where
      pub upload-laid : Laid t
      upload-laid = rw e (stored-laid (counted_upload number q b) (held-counted-upload q b held r.memory number) s l)

      pub upload-stored : (u : List ℕ) (i : ℕ) (transaction : Bits128) (p : Place)
          → u ≡ stored (with_place i p (bank_of t)) t → i ≡ free_place b → p ≡ new_place transaction number b.clock q
          → u ≡ stored (open_upload transaction number q b) s
      unfolding open_upload counted_upload counted
      upload-stored u i transaction p f x y =
          stored-change s l (counted_upload number q b) (held-counted-upload q b held r.memory number)
          (with_place (free_place b) (new_place transaction number b.clock q)) (held-upload q b held r transaction number)
          (omega arith) (omega arith) t u e
          (f ∙ ap (λ (j : ℕ). stored (with_place j p (bank_of t)) t) x
          ∙ ap (λ (c : Place). stored (with_place (free_place b) c (bank_of t)) t) y)

  -- or the download
  module _ (r : DownloadRoom b q) (t : List ℕ) (e : t ≡ stored (counted q b) s) where
    counted-download : free_download (bank_of t) ≡ free_download b
    unfolding counted free_download
    counted-download =
        ap (λ (r : List ℕ). free_download (bank_of r)) e
        ∙ ap free_download (stored_back (counted q b) (held-counted q b held r.memory) s l)

    pub counted-downloads : download_count_of t ≡ free_download b
    counted-downloads = sym (free-download t) ∙ counted-download

    pub download-stored : (u : List ℕ) (transaction : Bits128) (x : Download)
        → u ≡ stored (with_download (free_download (bank_of t)) x (bank_of t)) t → x ≡ new_download transaction b.clock q
        → u ≡ stored (open_download transaction q b) s
    unfolding open_download counted
    download-stored u transaction x f y =
        let few = (within-own s l).downloads in
        stored-change s l (counted q b) (held-counted q b held r.memory)
        (with_download (free_download b) (new_download transaction b.clock q)) (held-download q b held r transaction)
        (omega arith) (omega arith) t u e
        (f ∙ ap (λ (j : ℕ). stored (with_download j x (bank_of t)) t) counted-download
        ∙ ap (λ (c : Download). stored (with_download (free_download b) c (bank_of t)) t) y)
