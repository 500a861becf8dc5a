-- The part that is lent comes back as zeros.
use Rattle.std.proofs.Common.{ℕ, ◌-◌, ◌≡◌, length, take, drop, replicate, refl, ap, ◌∙◌, rules, arith}
use Rattle.std.proofs.lemmas.Slice.{put_mid-paste}
use lib.ListN.{length-drop, length-replicate}
use lib.Seq.{length-take-le}
use Rattle.octets.proofs.Numbers.{overwrite-paste}
use Rattle.bank_lists.proofs.rows.wipe.Goals as goal

pub returns : goal.returns
returns c =
    let a = c.args in
    let s = a.rows.now in
    let n : ℕ = a.end - a.from in
    let m : length (take n (drop a.from s)) ≡ n = length-take-le n (drop a.from s) (omega (arith, length-drop a.from s, c.requires.0, c.requires.1)) in
    let zeros = c.fill.ensures.after (search rules) ∙ ap (λ (k : ℕ). replicate k 0) m in
    put_mid-paste a.from n s _ (replicate n 0) (length (replicate n 0)) zeros (length-replicate n 0) refl
    ∙ overwrite-paste s a.from (replicate n 0)
