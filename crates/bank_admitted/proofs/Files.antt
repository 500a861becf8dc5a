-- A file that goes into a mailbox keeps what the state may hold.
use Rattle.bank.specs.declared.mailbox.FileRefusal.{FileRefusal}
use Rattle.std.specs.Prelude.{Ok, Result}
use Prim.Native.Nat.{ℕ, ◌+◌, ◌-◌, ◌*◌, ◌≤◌, ◌<◌}
use mathlib.Core.Bool.{Bool, true, false, not, ◌||◌}
use mathlib.Core.List.{List, ◌++◌}
use mathlib.Core.Path.{◌≡◌, refl, sym, ap, ◌∙◌}
use native.Mathlib.Decide.{ℕ_discrete}
use native.Mathlib.Omega.{arith}
use lib.Dec.{ltb, eqb}
use lib.ListN.{length, get_or, set, take, drop, replicate, length-set}
use lib.Seq.{get_or-set_same, get_or-set_other, take-append_seam}
use borrow.Author.Tests.{ltb-false, eqb-true, eqb-false, not-false}
use Rattle.octets.specs.Bytes.{overwrite}
use Rattle.octets.proofs.Tests.{or-neither}
use Rattle.message.specs.Limits.{subscribers, file_bytes}
use Rattle.message.specs.Verdicts.{decide}
use Rattle.message.proofs.Verdicts.{by-test}
use Rattle.bank_state.specs.Limits.{place_count, store_bytes}
use Rattle.bank_state.specs.Search.{open_count, open_count_of}
use Rattle.bank_state.specs.State.{Bank, BankState, bank_state, download_at, file_length, with_files}
use Rattle.bank_state.specs.Store.{part_at, file_of}
use Rattle.bank.specs.Mailbox.{file_refusals, file_number}
use Rattle.bank_admitted.specs.State.{mailbox_file, DownloadHolds, MailboxHolds, StateHolds}
use Rattle.bank_admitted.proofs.Stores.{length-written, part-written, part-unwritten}
use Rattle.bank_admitted.proofs.Held.{file-long, download-open}
use Rattle.bank_admitted.proofs.Parts.{drop-replicate}
use Rattle.bank_admitted.proofs.DownloadChange.{download-change}

-- the bank with the file in its mailbox
abbrev pub filled : ℕ → List ℕ → BankState → BankState
filled mailbox file w =
    bank_state (with_files (set w.bank.files (mailbox - 1) (length file)) w.bank) w.orders
    (overwrite w.mailboxes ((mailbox - 1) * file_bytes) file)

-- what the tests tell of a file that goes in
pub data FileSound (b : Bank) (mailbox : ℕ) (file mailboxes : List ℕ) : Result (Unit {0}) FileRefusal → Type 0 where
  rejected : {a : Result (Unit {0}) FileRefusal} → (0 < file_number a) → FileSound b mailbox file mailboxes a
  done : 1 ≤ mailbox → mailbox ≤ subscribers → 1 ≤ length file → length file ≤ file_bytes → file_length mailbox b.files ≡ 0 →
      FileSound b mailbox file mailboxes (Ok tt)

pub judged-file : (b : Bank) (mailbox : ℕ) (file mailboxes : List ℕ) →
    FileSound b mailbox file mailboxes (decide (file_refusals b mailbox file mailboxes) (Ok tt))
unfolding file_refusals
judged-file b mailbox file mailboxes =
    by-test P (not (eqb (length mailboxes) store_bytes)) (λ _. rejected (omega arith))
    (λ _. by-test P (ltb mailbox 1 || ltb subscribers mailbox) (λ _. rejected (omega arith))
    (λ from. by-test P (eqb (length file) 0 || ltb file_bytes (length file)) (λ _. rejected (omega arith))
    (λ size. by-test P (not (eqb (file_length mailbox b.files) 0)) (λ _. rejected (omega arith))
    (λ empty. accepted (or-neither (ltb mailbox 1) (ltb subscribers mailbox) from)
    (or-neither (eqb (length file) 0) (ltb file_bytes (length file)) size)
    (eqb-true (file_length mailbox b.files) 0 (not-false _ empty))))))
  where
    P : Result (Unit {0}) FileRefusal → Type 0
    P a = FileSound b mailbox file mailboxes a

    accepted : (ltb mailbox 1 ≡ false) × (ltb subscribers mailbox ≡ false) →
        (eqb (length file) 0 ≡ false) × (ltb file_bytes (length file) ≡ false) →
        file_length mailbox b.files ≡ 0 → FileSound b mailbox file mailboxes (Ok tt)
    accepted m f e = done (ltb-false _ _ m.0) (ltb-false _ _ m.1) (let z = eqb-false (length file) 0 f.0 in omega arith)
        (ltb-false _ _ f.1) e

module _ (w : BankState) (v : StateHolds w) (mailbox : ℕ) (file : List ℕ) (known : 1 ≤ mailbox) (most : mailbox ≤ subscribers)
    (some : 1 ≤ length file) (short : length file ≤ file_bytes) (empty : file_length mailbox w.bank.files ≡ 0) where
  inside : mailbox - 1 < place_count
  inside = omega arith

  -- the other mailboxes stay
  pub filled-other : (s : ℕ) → (s - 1 ≡ mailbox - 1 → ⊥) → mailbox_file (filled mailbox file w) s ≡ mailbox_file w s
  unfolding mailbox_file file_length file_of
  filled-other s n =
      rw (
        get_or-set_other w.bank.files (mailbox - 1) (s - 1) (length file) 0 n,
        part-unwritten w.mailboxes v.sizes.mailboxes (mailbox - 1) inside file short (s - 1) n,
      )

  was-zeros : part_at w.mailboxes (mailbox - 1) ≡ replicate file_bytes 0
  unfolding file_length
  was-zeros =
      (v.mailboxes_hold (mailbox - 1) inside).zeros
      ∙ ap (λ (n : ℕ). take n (part_at w.mailboxes (mailbox - 1)) ++ replicate (file_bytes - n) 0) empty

  now-held : part_at (filled mailbox file w).mailboxes (mailbox - 1) ≡ file ++ replicate (file_bytes - length file) 0
  now-held =
      let e : file_bytes ≡ length file + (file_bytes - length file) = omega arith in
      part-written w.mailboxes v.sizes.mailboxes (mailbox - 1) inside file short
      ∙ ap (λ (l : List ℕ). file ++ l)
      (ap (drop (length file)) was-zeros
      ∙ (ap (λ (n : ℕ). drop (length file) (replicate n 0)) e ∙ drop-replicate (length file) (file_bytes - length file) 0))

  -- the mailbox holds exactly the file
  pub filled-same : mailbox_file (filled mailbox file w) mailbox ≡ file
  unfolding mailbox_file file_length file_of
  filled-same =
      rw (get_or-set_same w.bank.files (mailbox - 1) (length file) 0 (let z = v.sizes.files in omega arith), now-held)
      (take-append_seam file (replicate (file_bytes - length file) 0))

  mailboxes-hold : (i : ℕ) → i < place_count →
      MailboxHolds (get_or (filled mailbox file w).bank.files i 0) (part_at (filled mailbox file w).mailboxes i)
  mailboxes-hold i a = at (ℕ_discrete i (mailbox - 1))
    where
      at : Dec (i ≡ mailbox - 1) → MailboxHolds (get_or (set w.bank.files (mailbox - 1) (length file)) i 0)
          (part_at (filled mailbox file w).mailboxes i)
      at (yes z) = rw z (rw (
        get_or-set_same w.bank.files (mailbox - 1) (length file) 0 (let y = v.sizes.files in omega arith),
        now-held,
      ) (record {
        room = short;
        zeros = ap (λ (l : List ℕ). l ++ replicate (file_bytes - length file) 0)
            (sym (take-append_seam file (replicate (file_bytes - length file) 0)));
      }))
      at (no n) =
          rw (
            get_or-set_other w.bank.files (mailbox - 1) i (length file) 0 n,
            part-unwritten w.mailboxes v.sizes.mailboxes (mailbox - 1) inside file short i n,
          ) (v.mailboxes_hold i a)

  -- no download of this mailbox is open: it is empty
  pub downloads-elsewhere : (j : ℕ) → (download_at w.bank j).used ≡ true →
      mailbox_file (filled mailbox file w) (download_at w.bank j).subscriber ≡ mailbox_file w (download_at w.bank j).subscriber
  downloads-elsewhere j u =
      let s = download-open w v j u in
      let k = s.known in
      let f = s.full in
      let l = file-long w v (download_at w.bank j).subscriber s.known s.most in
      let n : (download_at w.bank j).subscriber ≡ mailbox →
      ⊥ = λ z. (let y = ap (λ (m : ℕ). file_length m w.bank.files) z in omega arith) in
      filled-other (download_at w.bank j).subscriber (λ z. n (omega arith))

  downloads-stay : (j : ℕ) → DownloadHolds (download_at w.bank j).used w.bank.clock w.bank.openings
      (mailbox_file (filled mailbox file w) (download_at w.bank j).subscriber) (download_at w.bank j)
  downloads-stay j = at (download_at w.bank j).used (downloads-elsewhere j) (v.downloads j)
    where
      at : (u : Bool) → (u ≡ true → mailbox_file (filled mailbox file w) (download_at w.bank j).subscriber
          ≡ mailbox_file w (download_at w.bank j).subscriber) →
          DownloadHolds u w.bank.clock w.bank.openings (mailbox_file w (download_at w.bank j).subscriber)
          (download_at w.bank j) →
          DownloadHolds u w.bank.clock w.bank.openings
          (mailbox_file (filled mailbox file w) (download_at w.bank j).subscriber) (download_at w.bank j)
      at false e s = s
      at true e s = rw (e refl) s

  pub filled_keeps : StateHolds (filled mailbox file w)
  unfolding open_count open_count_of
  filled_keeps =
      download-change w w.bank.clock w.bank.openings w.bank.downloads w.bank.nonces (filled mailbox file w).bank.files
      (filled mailbox file w).mailboxes v (record {
        listed = v.sizes.downloads;
        remembered = v.sizes.nonces;
        filed = length-set w.bank.files (mailbox - 1) (length file) ∙ v.sizes.files;
        stored = length-written w.mailboxes v.sizes.mailboxes (mailbox - 1) inside file short;
        later = omega arith;
        grow = omega arith;
        numbers = v.numbers;
        downloads = downloads-stay;
        mailboxes_hold = mailboxes-hold;
        apart = v.apart;
        in_order = v.in_order;
        memory = v.nonces;
        open_all = v.open_all;
        open_of = v.open_of;
      })
