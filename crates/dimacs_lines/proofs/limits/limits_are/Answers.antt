use Rattle.std.proofs.Common.{rules}
use Rattle.dimacs_lines.proofs.limits.limits_are.Goals as goal

pub returns-clause-name : goal.returns-clause-name
returns-clause-name c = search rules

pub returns-clause-value_digits : goal.returns-clause-value_digits
returns-clause-value_digits c = search rules

pub returns-clause-digits : goal.returns-clause-digits
returns-clause-digits c = search rules

pub returns-clause-line : goal.returns-clause-line
returns-clause-line c = search rules
