use Rattle.std.proofs.Common.{◌≡◌, ◌+◌, ◌≤◌, ℕ, List, length, ap, subst, arith}
use Rattle.sudoers_text.specs.LeftTokens.{LeftTokens}
use Rattle.sudoers_text.proofs.Standing.{token_of_line_is_next, next_token_is_taken_from_line, no_tokens_are_left_at_line_end}
use Rattle.sudoers_text.proofs.line_tokens.LineTokens.take_next_token.Goals as goal

pub returns-in_default-clause-next : goal.returns-in_default-clause-next
returns-in_default-clause-next c =
    let all = no_tokens_are_left_at_line_end c.self.inside.line.now c.self.inside.here c.self.inside.at c.args.self.now (ap (λ (left : LeftTokens). left.tokens) c.self.view_is) c.in_default.ensures.none in
    all.next

pub returns-in_default-clause-left : goal.returns-in_default-clause-left
returns-in_default-clause-left c =
    let all = no_tokens_are_left_at_line_end c.self.inside.line.now c.self.inside.here c.self.inside.at c.args.self.now (ap (λ (left : LeftTokens). left.tokens) c.self.view_is) c.in_default.ensures.none in
    all.left

pub returns : goal.returns
returns c =
    let line : c.self.inside.line.now ≡ c.args.self.now.line = ap (λ (left : LeftTokens). left.line) c.self.view_is in
    let more =
    token_of_line_is_next c.self.inside.line.now c.self.inside.here c.self.inside.at c.in-Some.start c.find_token_at-found.result c.self.invariant.inside
    (record { is = c.in-Some.ensures.some.0; more = c.in-Some.ensures.some.1 })
    c.find_token_at-found.ensures.found in
    let taken = next_token_is_taken_from_line c.args.self.now _ _ _ more.first (ap (λ (left : LeftTokens). left.tokens) c.self.view_is) in
    record {
      next = taken.next;
      left = taken.line_left c.self.inside.line.now line;
      within = (omega (arith, more.some), subst (λ (bytes : List ℕ). c.in-Some.start + c.find_token_at-found.result.len ≤ length bytes) line more.inside);
    }
