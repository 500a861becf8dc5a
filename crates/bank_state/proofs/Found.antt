-- What is found under a subscriber and a transaction ID: an open transaction of that subscriber. Assumes nothing.
use Prim.Native.Nat.{ℕ}
use mathlib.Core.Bool.{true, ◌&&◌}
use mathlib.Core.Path.{◌≡◌, refl}
use lib.Dec.{eqb}
use borrow.Author.Tests.{eqb-true}
use Rattle.frame_table.specs.declared.fields.Bits128.{Bits128}
use Rattle.frame_table.specs.Names.{same_bits}
use Rattle.octets.proofs.Tests.{never, and-true}
use Rattle.bank_state.specs.declared.state.Download.{Download}
use Rattle.bank_state.specs.declared.state.Place.{Place}
use Rattle.bank_state.specs.declared.state.Use.{Use}
use Rattle.bank_state.specs.declared.state.Use.TheVariants.{Free, Open, Booked}
use Rattle.bank_state.specs.Search.{is_open, is_upload, is_download}

-- a booked order's transaction has ended
is_open_lem : (u : Use) → is_open u ≡ true → u ≡ Open
is_open_lem Free e = never e
is_open_lem Open e = refl
is_open_lem Booked e = never e

pub upload-found : (s : ℕ) (t : Bits128) (p : Place) → is_upload s t p ≡ true
    → (p.used ≡ Open) × (p.subscriber ≡ s) × (same_bits p.transaction t ≡ true)
unfolding is_upload
upload-found s t p h =
    let a = and-true (is_open p.used && eqb p.subscriber s) (same_bits p.transaction t) h in
    let b = and-true (is_open p.used) (eqb p.subscriber s) a.0 in
    (is_open_lem p.used b.0, eqb-true p.subscriber s b.1, a.1)

pub download-found : (s : ℕ) (t : Bits128) (e : Download) → is_download s t e ≡ true
    → (e.used ≡ true) × (e.subscriber ≡ s) × (same_bits e.transaction t ≡ true)
unfolding is_download
download-found s t e h =
    let a = and-true (e.used && eqb e.subscriber s) (same_bits e.transaction t) h in
    let b = and-true e.used (eqb e.subscriber s) a.0 in
    (b.0, eqb-true e.subscriber s b.1, a.1)
