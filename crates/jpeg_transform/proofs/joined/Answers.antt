-- Each sum and difference fits, by `join_fits` at its expression, and they are the outputs.
use Rattle.whole.specs.Expressions.{var, add, sub}
use Rattle.jpeg_transform.proofs.Lines.{join_fits, joins}
use Rattle.jpeg_transform.proofs.joined.Goals as goal

pub overflow_add-result : goal.overflow_add-result
overflow_add-result c = join_fits c.args.e c.args.o c.requires (add (var 0) (var 4)) tt

pub overflow_add-result-2 : goal.overflow_add-result-2
overflow_add-result-2 c = join_fits c.args.e c.args.o c.requires (add (var 1) (var 5)) tt

pub overflow_add-result-3 : goal.overflow_add-result-3
overflow_add-result-3 c = join_fits c.args.e c.args.o c.requires (add (var 2) (var 6)) tt

pub overflow_add-result-4 : goal.overflow_add-result-4
overflow_add-result-4 c = join_fits c.args.e c.args.o c.requires (add (var 3) (var 7)) tt

pub overflow_sub-result : goal.overflow_sub-result
overflow_sub-result c = join_fits c.args.e c.args.o c.requires (sub (var 3) (var 7)) tt

pub overflow_sub-result-2 : goal.overflow_sub-result-2
overflow_sub-result-2 c = join_fits c.args.e c.args.o c.requires (sub (var 2) (var 6)) tt

pub overflow_sub-result-3 : goal.overflow_sub-result-3
overflow_sub-result-3 c = join_fits c.args.e c.args.o c.requires (sub (var 1) (var 5)) tt

pub overflow_sub-result-4 : goal.overflow_sub-result-4
overflow_sub-result-4 c = join_fits c.args.e c.args.o c.requires (sub (var 0) (var 4)) tt

pub returns : goal.returns
returns c = joins c.args.e c.args.o c.requires
