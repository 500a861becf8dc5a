-- Where the codec is done, the list has the answer; else the bytes are no image. Assumes nothing.
use Rattle.std.specs.Prelude.{◌≡◌, ℕ}
use native.Mathlib.Omega.{arith}
use Rattle.image_calls.proofs.Taking.{image-done, admitted-done, admitted-other}
use Rattle.image_calls.proofs.told.read_admitted.Goals as goal

pub holds_list-requires : goal.holds_list-requires
holds_list-requires c =
    let a = c.args in
    let pre = c.requires in
    image-done a.image.now a.numbers.now _ _ pre c.read_numbers.ensures c.in-Ok.is

pub returns-in-Ok : goal.returns-in-Ok
returns-in-Ok c =
    let a = c.args in
    let pre = c.requires in
    admitted-done a.image.now a.numbers.now _ _ pre c.read_numbers.ensures c.in-Ok.is _ c.holds_list.ensures

pub returns-in-Err : goal.returns-in-Err
returns-in-Err c =
    let a = c.args in
    let e = c.in-Err.is in
    admitted-other a.image.now a.numbers.now _ _ c.requires c.read_numbers.ensures (λ d. let z : ◌≡◌ {A = ℕ} 0 1 = cc in omega arith)
