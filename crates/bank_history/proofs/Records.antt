-- One record of downloads and the history: what is told after each verdict, and what a request to another transaction leaves.
use Prim.Native.Nat.{ℕ, suc}
use mathlib.Core.Bool.{Bool, true, false, cond}
use mathlib.Core.List.{List, ◌∷◌}
use mathlib.Core.Path.{◌≡◌, refl, ap, ◌∙◌}
use Rattle.frame_table.specs.declared.fields.Bits128.{Bits128}
use Rattle.bank_state.specs.declared.state.Download.{Download}
use Rattle.bank_downloads.specs.Downloads.{moved_to}
use Rattle.bank_verdicts.specs.declared.verdict.DownloadAction.TheVariants as down
use Rattle.bank_verdicts.specs.declared.verdict.Action.{Action}
use Rattle.bank_verdicts.specs.declared.verdict.Action.TheVariants as action
use Rattle.bank_verdicts.specs.declared.verdict.Verdict.TheVariants as verdict
use Rattle.bank_history.specs.History.{Exchange, is_download_opening, is_booking, is_delivery, is_ending, is_opening, is_action, did, ever}
use Rattle.bank_openings.specs.Openings.{new_download}
use Rattle.bank_history.specs.Invariant.{OpenTold, DownloadTold}
use Rattle.bank_history.proofs.Entries.{
  ever-other,
  times-other,
  opening-other,
  ever-own,
  times-own,
  opening-own,
  ever-unknown,
  times-unknown,
}

-- a request to another transaction
module _ (x : Exchange) (h : List Exchange) (file : List ℕ) (e : Download) where
  pub download-unchanged : (u : Bool) → (u ≡ true → did is_action e.transaction x.verdict ≡ false) → DownloadTold u h file e →
      DownloadTold u (x ∷ h) file e
  download-unchanged false n s = s
  download-unchanged true n s =
      let t = e.transaction in
      record {
        opened = ever-other t x h (n refl) is_download_opening ∙ s.opened;
        owner = opening-other t x h (n refl) _ _ ∙ s.owner;
        deliveries = times-other t x h (n refl) is_delivery ∙ s.deliveries;
        going = ever-other t x h (n refl) is_ending ∙ s.going;
        unbooked = ever-other t x h (n refl) is_booking ∙ s.unbooked;
        unchanged = opening-other t x h (n refl) _ _ ∙ s.unchanged;
      }

-- an action of this download that neither opens, books nor ends it: d is the number of deliveries then
pub download-moved : (x : Exchange) (h : List Exchange) (file : List ℕ) (e : Download) (k : Action) (d attempts last : ℕ) →
    x.verdict ≡ verdict.Of e.transaction k → is_download_opening k ≡ false → is_opening k ≡ false → is_booking k ≡ false →
    is_ending k ≡ false → cond (is_delivery k) (suc e.delivered) e.delivered ≡ d →
    OpenTold h file e → OpenTold (x ∷ h) file (moved_to d attempts last e)
download-moved x h file e k d attempts last own starts opens books ends count l =
    let t = e.transaction in
    record {
      opened = ever-own t k x h own is_download_opening ∙ rw starts l.opened;
      owner = opening-own t k x h own _ _ ∙ rw opens l.owner;
      deliveries = times-own t k x h own is_delivery ∙ (ap (λ (n : ℕ). cond (is_delivery k) (suc n) n) l.deliveries ∙ count);
      going = ever-own t k x h own is_ending ∙ rw ends l.going;
      unbooked = ever-own t k x h own is_booking ∙ rw books l.unbooked;
      unchanged = opening-own t k x h own _ _ ∙ rw opens l.unchanged;
    }

-- a download just opened, with its transaction ID
pub download-opened : (x : Exchange) (h : List Exchange) (c n : ℕ) (t : Bits128) →
    x.verdict ≡ verdict.Of t (action.Download (down.Opened n)) → ever is_action t h ≡ false →
    OpenTold (x ∷ h) x.file (new_download t c x.request)
download-opened x h c n t own new =
    let a = action.Download (down.Opened n) in
    record {
      opened = ever-own t a x h own is_download_opening;
      owner = opening-own t a x h own _ _;
      deliveries = times-own t a x h own is_delivery ∙ ap suc (times-unknown t is_delivery h new);
      going = ever-own t a x h own is_ending ∙ ever-unknown t is_ending h new;
      unbooked = ever-own t a x h own is_booking ∙ ever-unknown t is_booking h new;
      unchanged = opening-own t a x h own _ _;
    }
