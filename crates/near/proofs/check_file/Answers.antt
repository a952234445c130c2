-- `near::check_file` meets its contract. Each return is an end of the definition. Assumes nothing.
use Rattle.std.proofs.Common.{sym, ◌∙◌}
use Rattle.near.proofs.Refusing.{torn, malformed, sound}
use Rattle.near.proofs.check_file.Goals as goal

pub returns-then-file-ne0 : goal.returns-then-file-ne0
returns-then-file-ne0 c = torn _ c.if-file-ne0.true

pub returns-then-not-all_readable : goal.returns-then-not-all_readable
returns-then-not-all_readable c =
    malformed _ c.if-file-ne0.false (sym c.all_readable.ensures ∙ c.if-not-all_readable.true)

pub returns : goal.returns
returns c =
    sound _ c.if-file-ne0.false (sym c.all_readable.ensures ∙ c.if-not-all_readable.false)
