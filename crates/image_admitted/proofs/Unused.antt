-- A call leaves the rows wiped behind both counts: what it frees is zero, and the rest was. Assumes nothing.
use Prim.Native.Nat.{ℕ, ◌*◌, ◌≤◌}
use mathlib.Core.Bool.{Bool, true, false}
use mathlib.Core.List.{List}
use mathlib.Core.Path.{◌≡◌, refl, sym, ap, ◌∙◌}
use native.Mathlib.Omega.{arith}
use lib.Dec.{ltb}
use lib.ListN.{length, get_or}
use borrow.Author.Tests.{ltb-true, ltb-false}
use Rattle.bank_state.specs.State.{Bank}
use Rattle.bank_rows.specs.Layout.{download_width, nonce_width}
use Rattle.bank_rows.specs.Records.{download_row, nonce_row}
use Rattle.bank_rows.specs.Rows.{numbers_of, written}
use Rattle.bank_rows.specs.State.{
  downloads_part,
  nonces_part,
  download_count_of,
  nonce_count_of,
  open_downloads,
  remembered_nonces,
  stored,
  Laid,
  Held,
}
use Rattle.bank_rows.proofs.General.{written-freed, written-rest, length-numbers}
use Rattle.bank_rows.proofs.Records.{download-wide, nonce-wide}
use Rattle.bank_rows.proofs.State.{
  downloads-at,
  nonces-at,
  stored-downloads,
  stored-nonces,
  stored-download-count,
  stored-nonce-count,
}
use Rattle.image_admitted.specs.Unused.{Wiped}

-- numbers written over an area that is zero behind those in use
written-zero : (n : ℕ) (ns area : List ℕ) (j : ℕ) → length ns ≤ j → (n ≤ j → get_or area j 0 ≡ 0)
    → get_or (written n ns area) j 0 ≡ 0
written-zero n ns area j h z = at (ltb j n) refl
  where
    at : (t : Bool) → ltb j n ≡ t → get_or (written n ns area) j 0 ≡ 0
    at true e = written-freed n ns area j h (ltb-true j n e)
    at false e = let k = ltb-false j n e in written-rest n ns area j h k ∙ z k

pub stored-wiped : (b : Bank) → Held b → (old : List ℕ) → Laid old → Wiped old → Wiped (stored b old)
stored-wiped b k old l v = record {
  downloads = λ j h below.
      let n = length-numbers download_row download_width download-wide (open_downloads b) in
      let c = stored-download-count b k old l in
      sym (downloads-at (stored b old) j below) ∙ ap (λ (r : List ℕ). get_or r j 0) (stored-downloads b k old l)
      ∙ written-zero (download_width * download_count_of old) (numbers_of download_row (open_downloads b)) (downloads_part old) j
      (omega arith) (λ more. downloads-at old j below ∙ v.downloads j more below);
  nonces = λ j h below.
      let n = length-numbers nonce_row nonce_width nonce-wide (remembered_nonces b) in
      let c = stored-nonce-count b k old l in
      sym (nonces-at (stored b old) j below) ∙ ap (λ (r : List ℕ). get_or r j 0) (stored-nonces b k old l)
      ∙ written-zero (nonce_width * nonce_count_of old) (numbers_of nonce_row (remembered_nonces b)) (nonces_part old) j
      (omega arith) (λ more. nonces-at old j below ∙ v.nonces j more below);
}
