use Rattle.std.proofs.Common.{◌≡◌, ◌∙◌, true, false}
use Rattle.std.specs.Str.{bytes_eq}
use Rattle.std.proofs.lemmas.Result.{IfOk-weaker}
use Rattle.sudoers_place.specs.Memory.{image_of, file_if}
use Rattle.sudoers_place.proofs.Log.{found_before, found_here}
use Rattle.sudoers_place.proofs.memory.+look_up.Goals as goal

pub returns-then-eq : goal.returns-then-eq
returns-then-eq t c =
    let is : bytes_eq c.in-Some.last.now.path.items c.args.path.now ≡ true = cc in
    IfOk-weaker c.copy_if.result (λ copy. file_if copy ≡ file_if c.in-Some.last.now.file) (λ found. file_if found ≡ image_of c.args.log.now c.args.path.now) (λ copy same. same ∙ found_here c.args.log.now c.in-Some.rest.now c.in-Some.last.now c.args.path.now c.in-Some.ensures.cases.0 is) c.copy_if.ensures

pub returns : goal.returns
returns t c =
    let is : bytes_eq c.in-Some.last.now.path.items c.args.path.now ≡ false = cc in
    IfOk-weaker c.look_up.result (λ found. file_if found ≡ image_of c.in-Some.rest.now c.args.path.now) (λ found. file_if found ≡ image_of c.args.log.now c.args.path.now) (λ found was. was ∙ found_before c.args.log.now c.in-Some.rest.now c.in-Some.last.now c.args.path.now c.in-Some.ensures.cases.0 is) c.look_up.ensures
