use Rattle.std.proofs.Common.{◌≡◌, ◌∙◌, ◌++◌, ◌≤◌, ◌<◌, List, ℕ, [], length, get_or, arith, ap, length-append}
use Rattle.std.proofs.lemmas.List.{get_or_default}
use Rattle.tool_run.specs.declared.limits.TheConstants.{MAX_REGISTER}
use Rattle.tool_text.specs.declared.tool.Operand.TheVariants.{Register}
use Rattle.tool_run.specs.Machine.{effect_of, fitting}
use Rattle.tool_run.specs.States.{machine_of}
use Rattle.tool_run.specs.Values.{value_of}
use Rattle.tool_run.proofs.Appended.{appended, other_value}
use Rattle.tool_run.proofs.state.State.append.Goals as goal

pub returns : goal.returns
returns c =
    let registers = c.args.self.now.registers.items in
    let r = c.number-number.result in
    let old : List ℕ = get_or registers r [] in
    let more : List ℕ = value_of registers c.args.y.now in
    let n : r ≡ c.args.register = c.number-number.ensures.value in
    let there : r < length registers = (let l1 = c.args.self.now.registers.ok in let l2 = c.args.self.now.sized in let l3 = c.number-number.ensures.below in omega arith) in
    let kept : c.replace-content.result ≡ old = c.replace-content.ensures.value ∙ c.index_mut.ensures.value ∙ get_or_default registers r c.index_mut.result.now [] there in
    let other : c.value-2.result.now ≡ more =
    c.value-2.ensures ∙ other_value registers r c.replace-content.new.dest c.args.y.now (λ e. c.requires.other (e ∙ ap Register n)) in
    let is : c.add.new.self ≡ old ++ more = c.in_ok-add.ensures ∙ ap (λ xs. xs ++ c.value-2.result.now) kept ∙ ap (λ ys. old ++ ys) other in
    let mine : length c.bytes.result.now ≡ length old = ap length (c.bytes.ensures ∙ c.index.ensures ∙ get_or_default registers r c.index.result.now [] there) in
    let yours : length c.value.result.now ≡ length more = ap length c.value.ensures in
    let short : length (old ++ more) ≤ MAX_REGISTER = omega (arith, length-append old more, mine, yours, c.if-length-gt-MAX_REGISTER.false) in
    appended (machine_of c.args.self.now) r (old ++ more) c.add.new.self c.replace-content.new.dest is short
    ∙ ap (λ k. effect_of (fitting (machine_of c.args.self.now) k (get_or registers k [] ++ more))) n
