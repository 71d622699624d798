-- Texts and lines that pass a limit.
use Rattle.std.proofs.Common.{Bool, true, false, ◌&&◌, nat_le, ◌≡◌, ◌⊎◌, inl, inr, ℕ, zero, suc, ◌+◌, ◌<◌, ◌≤◌, List, [], ◌∷◌, ◌++◌, length, map, drop, get_or, slice_get, Some, None, refl, sym, ap, subst, ◌∙◌, arith}
use Rattle.std.specs.List.{AllByRecursion, list_all}
use Rattle.std.proofs.lemmas.Bool.{leb-true, le-leb}
use Rattle.std.proofs.lemmas.List.{drop_more, length-append}
use Rattle.std.proofs.lemmas.Grind.{flat_map-append}
use Rattle.sudoers_text.specs.Fault.{text_limit, line_limit}
use Rattle.sudoers_grammar.specs.Node.{Node}
use Rattle.sudoers_cvt_spell.specs.Lines.{printed_line, printed_lines}
use Rattle.sudoers_cvt_rules.specs.declared.fault.CvtFault.{CvtFault}
use Rattle.sudoers_cvt_rules.specs.declared.fault.CvtFault.TheVariants.{Cycle, TooLarge, NotUtf8, NoMemory}
use Rattle.sudoers_cvt_rules.specs.Rules.{Rules, is_printed_within_limits, rule_nodes_in_print_order, printed_rules}
use Rattle.sudoers_cvt_rules.specs.internal.Long.{IsFaultOfMakingUnendedLine, IsFaultOfMakingLine, IsFaultOfAppendingLines, PrintedRulesFitLimits, IsPrintFault}

-- what is next in a list, by what each row says
pub mapped_drop_begins_with_next_image : {X Y : Type 0} (f : X → Y) (xs : List X) (i : ℕ) (d : X) → i < length xs → (y : Y) → y ≡ f (get_or xs i d)
    → map f (drop i xs) ≡ y ∷ map f (drop (i + 1) xs)
mapped_drop_begins_with_next_image f xs i d h y e = ap (map f) (drop_more xs i d h) ∙ ap (λ z. z ∷ map f (drop (i + 1) xs)) (sym e)

-- A text that goes on is as long at least.
pub longer_text_is_too_long_too : (a b : List ℕ) (fault : CvtFault) → length a ≤ length b → IsFaultOfMakingUnendedLine a fault → IsFaultOfMakingUnendedLine b fault
longer_text_is_too_long_too a b TooLarge le h = omega arith
longer_text_is_too_long_too a b NoMemory le h = tt
longer_text_is_too_long_too a b Cycle le h = absurd h
longer_text_is_too_long_too a b NotUtf8 le h = absurd h

pub length_of_printed_part_is_within_whole : (out gap text more whole : List ℕ) → out ++ ((gap ++ text) ++ more) ≡ whole → length ((out ++ gap) ++ text) ≤ length whole
length_of_printed_part_is_within_whole out gap text more whole e =
    omega (arith, ap length e, length-append out ((gap ++ text) ++ more), length-append (gap ++ text) more, length-append gap text, length-append (out ++ gap) text, length-append out gap)

abbrev pub LineFitsLimit : Node → Type 0
LineFitsLimit n = length (printed_line n) ≤ line_limit

line_at_index_fits_if_all_fit : (ns : List Node) (i : ℕ) (n : Node) → slice_get ns i ≡ Some n → AllByRecursion LineFitsLimit ns → LineFitsLimit n
line_at_index_fits_if_all_fit [] i n e all = absurd (let clash : None ≡ Some n = e in cc)
line_at_index_fits_if_all_fit (m ∷ ns) zero n e all = let same : m ≡ n = cc in subst LineFitsLimit same all.0
line_at_index_fits_if_all_fit (m ∷ ns) (suc i) n e all = line_at_index_fits_if_all_fit ns i n e all.1

-- One line is too long.
pub line_over_limit_is_limit_fault : (text : List ℕ) (ns : List Node) (i : ℕ) (n : Node) (fault : CvtFault) → slice_get ns i ≡ Some n → IsFaultOfMakingLine (printed_line n) fault → IsFaultOfAppendingLines text ns fault
line_over_limit_is_limit_fault text ns i n TooLarge e h = inr (λ all. let fits : LineFitsLimit n = line_at_index_fits_if_all_fit ns i n e all in omega arith)
line_over_limit_is_limit_fault text ns i n NoMemory e h = tt
line_over_limit_is_limit_fault text ns i n Cycle e h = absurd h
line_over_limit_is_limit_fault text ns i n NotUtf8 e h = absurd h

first_lines_fit_if_appended_fit : (ns ms : List Node) → AllByRecursion LineFitsLimit (ns ++ ms) → AllByRecursion LineFitsLimit ns
first_lines_fit_if_appended_fit [] ms a = tt
first_lines_fit_if_appended_fit (n ∷ ns) ms a = (a.0, first_lines_fit_if_appended_fit ns ms a.1)

last_lines_fit_if_appended_fit : (ns ms : List Node) → AllByRecursion LineFitsLimit (ns ++ ms) → AllByRecursion LineFitsLimit ms
last_lines_fit_if_appended_fit [] ms a = a
last_lines_fit_if_appended_fit (n ∷ ns) ms a = last_lines_fit_if_appended_fit ns ms a.1

-- Some of the lines pass a limit, so the rules do.
pub limit_fault_of_lines_is_print_fault : (r : Rules) (before ns after : List Node) (fault : CvtFault) → rule_nodes_in_print_order r ≡ before ++ (ns ++ after) → IsFaultOfAppendingLines (printed_lines before) ns fault → IsPrintFault r fault
limit_fault_of_lines_is_print_fault r before ns after NoMemory e h = inl refl
limit_fault_of_lines_is_print_fault r before ns after Cycle e h = absurd h
limit_fault_of_lines_is_print_fault r before ns after NotUtf8 e h = absurd h
limit_fault_of_lines_is_print_fault r before ns after TooLarge e (inl long) = inr (
  refl,
  λ fits.
      omega (
        arith,
        long,
        fits.text,
        ap (λ ls. length (printed_lines ls)) e,
        ap length (flat_map-append printed_line before (ns ++ after)),
        ap length (flat_map-append printed_line ns after),
        length-append (printed_lines before) (printed_lines (ns ++ after)),
        length-append (printed_lines ns) (printed_lines after),
        length-append (printed_lines before) (printed_lines ns),
      ),
)
limit_fault_of_lines_is_print_fault r before ns after TooLarge e (inr bad) = inr (
  refl,
  λ fits.
      bad (first_lines_fit_if_appended_fit ns after (last_lines_fit_if_appended_fit before (ns ++ after) (subst (AllByRecursion LineFitsLimit) e fits.lines))),
)

limit_test_implies_line_fits : (n : Node) → nat_le (length (printed_line n)) line_limit ≡ true → LineFitsLimit n
limit_test_implies_line_fits n h = leb-true (length (printed_line n)) line_limit h

true_conjunction_has_true_parts : (a b : Bool) → a && b ≡ true → (a ≡ true) × (b ≡ true)
true_conjunction_has_true_parts true b h = (refl, h)
true_conjunction_has_true_parts false b h = absurd (let clash : false ≡ true = h in cc)

limit_test_of_all_implies_all_fit : (ns : List Node) → list_all (λ n. nat_le (length (printed_line n)) line_limit) ns ≡ true → AllByRecursion LineFitsLimit ns
limit_test_of_all_implies_all_fit [] h = tt
limit_test_of_all_implies_all_fit (n ∷ ns) h =
    let parts = true_conjunction_has_true_parts (nat_le (length (printed_line n)) line_limit) (list_all (λ m. nat_le (length (printed_line m)) line_limit) ns) h in
    (limit_test_implies_line_fits n parts.0, limit_test_of_all_implies_all_fit ns parts.1)

all_fit_implies_limit_test_of_all : (ns : List Node) → AllByRecursion LineFitsLimit ns → list_all (λ n. nat_le (length (printed_line n)) line_limit) ns ≡ true
all_fit_implies_limit_test_of_all [] h = refl
all_fit_implies_limit_test_of_all (n ∷ ns) h = ap (λ t. t && list_all (λ m. nat_le (length (printed_line m)) line_limit) ns) (le-leb (length (printed_line n)) line_limit h.0) ∙ all_fit_implies_limit_test_of_all ns h.1

pub fitting_rules_pass_limit_test : (r : Rules) → PrintedRulesFitLimits r → is_printed_within_limits r ≡ true
fitting_rules_pass_limit_test r f = ap (λ t. t && list_all (λ n. nat_le (length (printed_line n)) line_limit) (rule_nodes_in_print_order r)) (le-leb (length (printed_rules r)) text_limit f.text) ∙ all_fit_implies_limit_test_of_all (rule_nodes_in_print_order r) f.lines

rules_passing_limit_test_fit : (r : Rules) → is_printed_within_limits r ≡ true → PrintedRulesFitLimits r
rules_passing_limit_test_fit r h =
    let parts = true_conjunction_has_true_parts (nat_le (length (printed_rules r)) text_limit) (list_all (λ n. nat_le (length (printed_line n)) line_limit) (rule_nodes_in_print_order r)) h in
    record { text = leb-true (length (printed_rules r)) text_limit parts.0; lines = limit_test_of_all_implies_all_fit (rule_nodes_in_print_order r) parts.1 }

pub unfitting_rules_fail_limit_test : (r : Rules) → (PrintedRulesFitLimits r → ⊥) → is_printed_within_limits r ≡ false
unfitting_rules_fail_limit_test r never = by (is_printed_within_limits r) refl
  where
    by : (b : Bool) → is_printed_within_limits r ≡ b → is_printed_within_limits r ≡ false
    by true e = absurd (never (rules_passing_limit_test_fit r e))
    by false e = e

pub print_fault_is_memory_or_size : (r : Rules) (fault : CvtFault) → IsPrintFault r fault → (fault ≡ NoMemory) ⊎ ((fault ≡ TooLarge) × (is_printed_within_limits r ≡ false))
print_fault_is_memory_or_size r fault (inl e) = inl e
print_fault_is_memory_or_size r fault (inr p) = inr (p.0, unfitting_rules_fail_limit_test r p.1)
