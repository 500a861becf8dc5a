-- `put_field` meets its contract: the content stands behind its tag and length.
use Rattle.std.proofs.Common.{◌≡◌, ℕ, ◌+◌, ◌/◌, ◌%◌, List, ◌∷◌, get_or, length, refl, ap, ◌∙◌, arith}
use Rattle.octets.specs.Bytes.{field_bytes, overwrite}
use Rattle.octets.proofs.Numbers.{overwrite-overwrite}
use Rattle.octets.proofs.bytes.put_field.Goals as goal

pub returns : goal.returns
unfolding field_bytes
returns c =
    let a = c.args in
    let n = length a.content.now in
    let r = c.to_be_bytes.result in
    let h : get_or r 0 0 ≡ n / 256 = ap (λ (l : List ℕ). get_or l 0 0) c.to_be_bytes.ensures ∙ omega arith in
    let l : get_or r 1 0 ≡ n % 256 = ap (λ (l : List ℕ). get_or l 1 0) c.to_be_bytes.ensures in
    c.copy-2.ensures ∙ ap (λ (d : List ℕ). overwrite d (a.at + 3) a.content.now) c.copy.ensures
    ∙ overwrite-overwrite a.dst.now a.at 3 _ a.content.now refl (omega arith)
    ∙ ap (λ (b : ℕ). overwrite a.dst.now a.at (a.tag ∷ b ∷ get_or r 1 0 ∷ a.content.now)) h
    ∙ ap (λ (b : ℕ). overwrite a.dst.now a.at (a.tag ∷ n / 256 ∷ b ∷ a.content.now)) l
