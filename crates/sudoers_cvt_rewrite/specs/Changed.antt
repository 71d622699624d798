-- What is to be changed, as the code has it.
use Rattle.std.specs.Borrow.{Bor}
use Rattle.std.specs.Option.{option_map}
use Rattle.sudoers_cvt_rewrite.specs.declared.changing.RewriteChanges.{RewriteChanges as ChangesOf}
use Rattle.sudoers_cvt_rewrite.specs.declared.filter.Filter.{Filter}
use Rattle.sudoers_cvt_rewrite.specs.Rewrite.{PolicyChanges}

abbrev pub changes_of_view : ChangesOf → PolicyChanges
changes_of_view c = record { filter = option_map (λ (f : Bor Filter). f.now) c.filter; prune = c.prune; expand = c.expand }
