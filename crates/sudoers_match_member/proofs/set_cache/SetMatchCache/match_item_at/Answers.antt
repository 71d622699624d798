use Rattle.std.proofs.Common.{◌≡◌, ◌==◌, ℕ, ◌+◌, ◌<◌, ◌≤◌, Bool, List, ◌∷◌, length, drop, take, get_or, sym, ap, subst, ◌∙◌, ◌-◌, add-zero, arith}
use Rattle.std.proofs.lemmas.List.{drop_more, drop-drop, length-drop, get_or-drop, take_rest}
use Rattle.sudoers_match_member.specs.declared.wildcards.GlobMode.{GlobMode}
use Rattle.sudoers_match_member.specs.declared.first_pattern_item.PatternItemMatch.{PatternItemMatch}
use Rattle.sudoers_match_member.specs.Folded.{byte_case_folded_if_wanted, bytes_case_folded_if_wanted}
use Rattle.sudoers_match_member.specs.Wildcard.{is_byte_taken_by_item as takes_by, PatternItem, bracket_item, pattern_item_at}
use Rattle.sudoers_match_member.specs.internal.Known.{IsFirstItemMatch, IsTailWithoutClosingBracket}
use Rattle.sudoers_match_member.proofs.Open.{unclosed_bracket_is_read_as_byte_item, bytes_after_place_in_tail_are_bracketless}
use Rattle.sudoers_match_member.proofs.set_cache.SetMatchCache.match_item_at.Goals as goal

-- a `[` in the last bytes
by_byte : (mode : GlobMode) (lower : Bool) (pattern : List ℕ) (at b tail : ℕ) (front : PatternItemMatch) → IsTailWithoutClosingBracket tail pattern → at < length pattern → length (drop at pattern) ≤ tail
    → byte_case_folded_if_wanted lower (get_or pattern at 0) ≡ 91 → front.len ≡ 1 → front.takes ≡ ◌==◌ b 91 → IsFirstItemMatch mode lower (drop at pattern) b front
by_byte mode lower pattern at b tail front is within few bracket_item one takes =
    let item = ap (λ xs. pattern_item_at (bytes_case_folded_if_wanted lower xs)) (drop_more pattern at 0 within)
    ∙ unclosed_bracket_is_read_as_byte_item lower (get_or pattern at 0) (drop (at + 1) pattern) bracket_item (bytes_after_place_in_tail_are_bracketless tail at pattern is few within) in
    record {
      len = one ∙ sym (ap (λ (x : PatternItem × ℕ). x.1) item);
      takes = takes ∙ sym (ap (λ (x : PatternItem × ℕ). takes_by mode x.0 b) item);
      some = omega (arith, one);
      within = omega (arith, one, length-drop at pattern, within);
    }

-- the byte at a place is the first of the rest
first_at : (xs : List ℕ) (at : ℕ) → get_or xs at 0 ≡ get_or (take (length xs - at) (drop at xs)) 0 0
first_at xs at =
    sym (ap (λ ys. get_or ys 0 0) (take_rest xs at) ∙ get_or-drop at xs 0 0 ∙ ap (λ n. get_or xs n 0) (add-zero at))

pub returns-then-rest-self-clause-front : goal.returns-then-rest-self-clause-front
returns-then-rest-self-clause-front c =
    by_byte c.args.mode c.args.lower c.args.pattern.now c.args.at c.args.byte c.args.self.now.tail c.make_one_byte_item.result c.requires.known.tail c.requires.within
    (subst (λ xs. length xs ≤ c.args.self.now.tail) (take_rest c.args.pattern.now c.args.at) c.if-rest-self.true)
    (ap (byte_case_folded_if_wanted c.args.lower) (first_at c.args.pattern.now c.args.at) ∙ sym c.fold_byte_case_if_wanted.ensures ∙ c.if-fold_byte_case_if_wanted-ne91.false)
    (ap (λ (f : PatternItemMatch). f.len) c.make_one_byte_item.ensures) (ap (λ (f : PatternItemMatch). f.takes) c.make_one_byte_item.ensures)

-- a `[`, and what stands behind it
bracket_at : (lower : Bool) (pattern : List ℕ) (at : ℕ) → at < length pattern → byte_case_folded_if_wanted lower (get_or pattern at 0) ≡ 91
    → pattern_item_at (bytes_case_folded_if_wanted lower (drop at pattern)) ≡ bracket_item (bytes_case_folded_if_wanted lower (drop (at + 1) pattern))
bracket_at lower pattern at within is =
    ap (λ xs. pattern_item_at (bytes_case_folded_if_wanted lower xs)) (drop_more pattern at 0 within) ∙ ap (λ c. pattern_item_at (c ∷ bytes_case_folded_if_wanted lower (drop (at + 1) pattern))) is

pub returns-then-front-eq1-clause-known : goal.returns-then-front-eq1-clause-known
returns-then-front-eq1-clause-known c =
    let mode = c.args.mode in let lower = c.args.lower in let pattern = c.args.pattern.now in let at = c.args.at in let read = c.read_bracket_item-self.ensures in
    let is : byte_case_folded_if_wanted lower (get_or pattern at 0) ≡ 91 = ap (byte_case_folded_if_wanted lower) (first_at pattern at) ∙ sym c.fold_byte_case_if_wanted.ensures ∙ c.if-fold_byte_case_if_wanted-ne91.false in
    let rest = take (length pattern - at) (drop at pattern) in
    let behind : take (length rest - 1) (drop 1 rest) ≡ drop (at + 1) pattern = take_rest rest 1 ∙ ap (drop 1) (take_rest pattern at) ∙ drop-drop 1 at pattern in
    let same : bracket_item (bytes_case_folded_if_wanted lower (take (length rest - 1) (drop 1 rest))) ≡ pattern_item_at (bytes_case_folded_if_wanted lower (drop at pattern)) =
    ap (λ xs. bracket_item (bytes_case_folded_if_wanted lower xs)) behind ∙ sym (bracket_at lower pattern at c.requires.within is) in
    c.find_unclosed_places.ensures.known mode (record {
      tail = c.requires.known.tail;
      front = λ b h. record {
        len = read.len ∙ ap (λ (i : PatternItem × ℕ). i.1) same;
        takes = read.takes b h ∙ ap (λ (i : PatternItem × ℕ). takes_by mode i.0 b) same;
        some = read.some;
        within = omega (arith, read.within, ap length behind, length-drop (at + 1) pattern, length-drop at pattern, c.requires.within);
      };
      unclosed = c.requires.known.unclosed;
    })
