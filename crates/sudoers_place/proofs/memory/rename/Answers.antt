use Rattle.std.proofs.Common.{◌≡◌, [], ◌∷◌, List, Some, false, refl, sym, ap, ◌∙◌}
use Rattle.std.specs.Str.{bytes_eq}
use Rattle.std.proofs.lemmas.Result.{on_ok_weaker}
use Rattle.sudoers_place.specs.declared.memory.Entry.{Entry}
use Rattle.sudoers_place.specs.Memory.{file_if, file_of, image_of}
use Rattle.sudoers_place.proofs.Log.{not_pushed, moves_one, moves_both, apart_from}
use Rattle.sudoers_place.proofs.memory.rename.Goals as goal

pub returns-then-eq-clause-goes_on : goal.returns-then-eq-clause-goes_on
returns-then-eq-clause-goes_on c = not_pushed _ _ (c.args.from.now ∷ c.args.to.now ∷ []) c.args.to.now _ refl

pub returns-in_err-record-in-Ok-Some-clause-goes_on : goal.returns-in_err-record-in-Ok-Some-clause-goes_on
returns-in_err-record-in-Ok-Some-clause-goes_on c =
    let looked : Some (file_of c.in-Ok-Some.file) ≡ image_of c.args.log.now.items c.args.from.now = sym (ap file_if c.in-Ok-Some.field-0-is) ∙ c.in-Ok-Some.ensures ∙ ap (λ (l : List Entry). image_of l c.args.from.now) c.deref.ensures.value in
    moves_one c.args.from.now c.args.to.now _ _ _ _ looked c.record.ensures.goes_on

pub returns-in_ok-record-in-Ok-Some-clause-moved : goal.returns-in_ok-record-in-Ok-Some-clause-moved
returns-in_ok-record-in-Ok-Some-clause-moved c =
    let differs : bytes_eq c.args.to.now c.args.from.now ≡ false = cc in
    let apart = apart_from c.args.to.now c.args.from.now differs in
    let looked : Some (file_of c.in-Ok-Some.file) ≡ image_of c.args.log.now.items c.args.from.now = sym (ap file_if c.in-Ok-Some.field-0-is) ∙ c.in-Ok-Some.ensures ∙ ap (λ (l : List Entry). image_of l c.args.from.now) c.deref.ensures.value in
    on_ok_weaker c.record-in-Ok-Some.result (λ _. (c.record-in-Ok-Some.ensures.goes_on 0 0).shown.others c.args.to.now (apart, tt) ∙ c.in_ok-record-in-Ok-Some.ensures.said ∙ looked) c.record-in-Ok-Some.ensures.said

pub returns-in_ok-record-in-Ok-Some-clause-goes_on : goal.returns-in_ok-record-in-Ok-Some-clause-goes_on
returns-in_ok-record-in-Ok-Some-clause-goes_on c =
    let differs : bytes_eq c.args.to.now c.args.from.now ≡ false = cc in
    let apart = apart_from c.args.to.now c.args.from.now differs in
    let looked : Some (file_of c.in-Ok-Some.file) ≡ image_of c.args.log.now.items c.args.from.now = sym (ap file_if c.in-Ok-Some.field-0-is) ∙ c.in-Ok-Some.ensures ∙ ap (λ (l : List Entry). image_of l c.args.from.now) c.deref.ensures.value in
    moves_both c.args.from.now c.args.to.now _ _ _ _ _ looked apart c.record.ensures.goes_on c.record-in-Ok-Some.ensures.goes_on

pub returns-in-Ok-None-clause-goes_on : goal.returns-in-Ok-None-clause-goes_on
returns-in-Ok-None-clause-goes_on c = not_pushed _ _ (c.args.from.now ∷ c.args.to.now ∷ []) c.args.to.now _ refl

pub returns-in-Err-clause-goes_on : goal.returns-in-Err-clause-goes_on
returns-in-Err-clause-goes_on c = not_pushed _ _ (c.args.from.now ∷ c.args.to.now ∷ []) c.args.to.now _ refl
