-- Each operation is a part of the half's expressions, which fit by a computed bound: the law is `ok`, and an answer names its expression.
use Rattle.whole.specs.Expressions.{Exp, var, add, sub}
use Rattle.jpeg_transform.specs.Halves.{by, sum, gap, near, far, even_of}
use Rattle.jpeg_transform.proofs.Lines.{ok, four}
use Rattle.jpeg_transform.proofs.even.Goals as goal

abbrev S : Exp
S = sum (var 0) (var 2)

abbrev G : Exp
G = gap (var 0) (var 2)

abbrev N : Exp
N = near (var 1) (var 3)

abbrev F : Exp
F = far (var 1) (var 3)

pub overflow_add-sum : goal.overflow_add-sum
overflow_add-sum c = ok c.requires (add (var 0) (var 2)) tt

pub overflow_mul-sum : goal.overflow_mul-sum
overflow_mul-sum c = ok c.requires S tt

pub overflow_sub-gap : goal.overflow_sub-gap
overflow_sub-gap c = ok c.requires (sub (var 0) (var 2)) tt

pub overflow_mul-gap : goal.overflow_mul-gap
overflow_mul-gap c = ok c.requires G tt

pub overflow_mul-near : goal.overflow_mul-near
overflow_mul-near c = ok c.requires (by (var 1) 15137) tt

pub overflow_mul-near-2 : goal.overflow_mul-near-2
overflow_mul-near-2 c = ok c.requires (by (var 3) 6270) tt

pub overflow_add-near : goal.overflow_add-near
overflow_add-near c = ok c.requires N tt

pub overflow_mul-far : goal.overflow_mul-far
overflow_mul-far c = ok c.requires (by (var 1) 6270) tt

pub overflow_mul-far-2 : goal.overflow_mul-far-2
overflow_mul-far-2 c = ok c.requires (by (var 3) 15137) tt

pub overflow_sub-far : goal.overflow_sub-far
overflow_sub-far c = ok c.requires F tt

pub overflow_add-result : goal.overflow_add-result
overflow_add-result c = ok c.requires (add S N) tt

pub overflow_add-result-2 : goal.overflow_add-result-2
overflow_add-result-2 c = ok c.requires (add G F) tt

pub overflow_sub-result : goal.overflow_sub-result
overflow_sub-result c = ok c.requires (sub G F) tt

pub overflow_sub-result-2 : goal.overflow_sub-result-2
overflow_sub-result-2 c = ok c.requires (sub S N) tt

pub returns : goal.returns
unfolding even_of
returns c = four c.requires (add S N) (add G F) (sub G F) (sub S N) tt
