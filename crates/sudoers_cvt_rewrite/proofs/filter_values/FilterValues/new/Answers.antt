use Rattle.std.proofs.Common.{Bool, Global, List, Vec, [], ap, ap₂, bytes_eq, false, if◌then◌else◌, map, sym, true, ℕ, ◌++◌, ◌∙◌, ◌∷◌, ◌≡◌, ◌||◌}
use Rattle.std.proofs.lemmas.Bool.{not-false, not-true}
use Rattle.std.proofs.lemmas.List.{map_push}
use Rattle.std.specs.List.{list_any}
use Rattle.std.specs.Str.{str_to_ascii_lowercase}
use Rattle.sudoers_cvt_rewrite.specs.Filter.{host_name_before_dot}
use Rattle.sudoers_cvt_rewrite.proofs.FilterNames.{any_of_pushed_is_any_or_last, known_value_adds_no_name, new_value_adds_its_name}
use Rattle.sudoers_cvt_rewrite.proofs.filter_values.FilterValues.new.Goals as goal
use Rattle.sudoers_cvt_rewrite.proofs.filter_values.FilterValues.new.Goals.{then-branch+in_ok-from_slice+in_ok-push+in_ok-add_name_before_dot, else-branch}

pub loop-value-preserved : goal.loop-value-preserved
loop-value-preserved c =
    let value : List ℕ = c.value-item.result in
    let word : List ℕ = c.as_slice-in-loop-value.result.now in
    let names : List (List ℕ) = c.loop-value.names.items in
    let seen : List (List ℕ) = c.loop-value.lower in
    let n = c.loop-value.value-index in
    let before = c.loop-value.invariant in
    let low : word ≡ str_to_ascii_lowercase value = c.as_slice-in-loop-value.ensures.value ∙ c.in_ok-folded.ensures.ok ∙ ap str_to_ascii_lowercase c.as_slice.ensures in
    let added = λ (b : Bool). λ (e : list_any (bytes_eq word) seen ≡ b). c.in_ok-add.ensures.added ∙ ap (λ t. if t then seen else seen ++ word ∷ []) e in
    elim c.if-branch.branch [
      | then-branch+in_ok-from_slice+in_ok-push+in_ok-add_name_before_dot w ↦
          let is_new : list_any (bytes_eq word) seen ≡ false = not-true (list_any (bytes_eq word) seen) (sym c.in_ok-add.ensures.new ∙ w.if-branch.true) in
          let pushed : c.if-branch.names.items ≡ names ++ value ∷ [] =
          ap (λ (v : Vec (List ℕ) Global). v.items) w.names-is ∙ w.in_ok-push.ensures.items
          ∙ ap (λ v. names ++ v ∷ []) (w.from_vec.ensures ∙ w.in_ok-from_slice.ensures.items ∙ w.as_slice-then-branch.ensures) in
          record {
            lower = added false is_new ∙ ap (λ w. seen ++ w ∷ []) low ∙ ap (λ ws. ws ++ str_to_ascii_lowercase value ∷ []) before.lower
                ∙ sym (map_push str_to_ascii_lowercase names value) ∙ ap (map str_to_ascii_lowercase) (sym pushed);
            short = λ test.
                let before_dot = λ (name : List ℕ). test (str_to_ascii_lowercase (host_name_before_dot name)) in
                ap (list_any test) w.short-is ∙ w.in_ok-add_name_before_dot.ensures test
                ∙ ap₂ (λ a v. a || before_dot v) (before.short test) w.as_slice-then-branch-2.ensures
                ∙ sym (any_of_pushed_is_any_or_last before_dot names c.if-branch.names.items value pushed);
            same = λ test ignores. ap (list_any test) pushed ∙ new_value_adds_its_name names c.args.values.now n value c.loop-value-test.true c.value-item.is before.same test ignores;
          }
      | else-branch w ↦
          let is_known : list_any (bytes_eq word) seen ≡ true = not-false (list_any (bytes_eq word) seen) (sym c.in_ok-add.ensures.new ∙ w.if-branch.false) in
          let kept : c.if-branch.names.items ≡ names = ap (λ (v : Vec (List ℕ) Global). v.items) w.names-is in
          record {
            lower = added true is_known ∙ before.lower ∙ ap (map str_to_ascii_lowercase) (sym kept);
            short = λ test. ap (list_any test) w.short-is ∙ before.short test
                ∙ ap (list_any (λ name. test (str_to_ascii_lowercase (host_name_before_dot name)))) (sym kept);
            same = λ test ignores. ap (list_any test) kept ∙ known_value_adds_no_name names c.args.values.now n value c.loop-value-test.true c.value-item.is before.same
                (ap (λ w. list_any (bytes_eq w) (map str_to_ascii_lowercase names)) (sym low) ∙ ap (list_any (bytes_eq word)) (sym before.lower) ∙ is_known) test ignores;
          }
    ]
