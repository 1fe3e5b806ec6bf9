use Rattle.std.proofs.Common.{map, string_bytes}
use Rattle.std.proofs.lemmas.Bool.{both_ways}
use Rattle.bx_engine_words.proofs.ReadSoFar.{all_read, next_is_given, next_is_new, next_is_none, next_is_other, no_words, none_read, starts}
use Rattle.bx_engine_words.proofs.words.read_options.Goals as goal

pub settings-init : goal.settings-init
settings-init c = none_read c.args.command (map string_bytes c.args.words.now) c.none-given.result c.none-given.ensures

pub returns-in_err-setting : goal.returns-in_err-setting
returns-in_err-setting c =
    rw c.from_residual.ensures
    (λ order are.
    next_is_none c.args.command (map string_bytes c.args.words.now) (map string_bytes c.settings.rest.now)
    (map string_bytes c.in-Some.others.now) c.as_str.result.now c.settings.given order c.settings.invariant
    (starts string_bytes c.settings.rest.now c.in-Some.others.now c.in-Some.first.now c.as_str.result.now
    c.in-Some.ensures.cases.0 c.as_str.ensures.value)
    c.in_err-setting.ensures are)

pub returns-in_err-given : goal.returns-in_err-given
returns-in_err-given c =
    rw c.from_residual-in_err-given.ensures
    (λ order are.
    next_is_given c.args.command (map string_bytes c.args.words.now) (map string_bytes c.settings.rest.now)
    (map string_bytes c.in-Some.others.now) (map string_bytes c.in_ok-setting.after.now) c.as_str.result.now
    c.settings.given c.in_ok-setting.setting order c.settings.invariant
    (starts string_bytes c.settings.rest.now c.in-Some.others.now c.in-Some.first.now c.as_str.result.now
    c.in-Some.ensures.cases.0 c.as_str.ensures.value)
    c.in_ok-setting.ensures c.in_err-given.ensures.free are)

pub returns-then-not-takes : goal.returns-then-not-takes
returns-then-not-takes c order are =
    next_is_other c.args.command (map string_bytes c.args.words.now) (map string_bytes c.settings.rest.now)
    (map string_bytes c.in-Some.others.now) (map string_bytes c.in_ok-setting.after.now) c.as_str.result.now
    c.settings.given c.in_ok-setting.setting order c.settings.invariant
    (starts string_bytes c.settings.rest.now c.in-Some.others.now c.in-Some.first.now c.as_str.result.now
    c.in-Some.ensures.cases.0 c.as_str.ensures.value)
    c.in_ok-setting.ensures (λ own. both_ways c.takes.result c.if-not-takes.true (c.takes.ensures.1 own)) are

pub settings-preserved : goal.settings-preserved
settings-preserved c =
    next_is_new c.args.command (map string_bytes c.args.words.now) (map string_bytes c.settings.rest.now)
    (map string_bytes c.in-Some.others.now) (map string_bytes c.in_ok-setting.after.now) c.as_str.result.now
    c.settings.given c.in_ok-given.given c.in_ok-setting.setting c.settings.invariant
    (starts string_bytes c.settings.rest.now c.in-Some.others.now c.in-Some.first.now c.as_str.result.now
    c.in-Some.ensures.cases.0 c.as_str.ensures.value)
    c.in_ok-setting.ensures (c.takes.ensures.0 c.if-not-takes.false) c.in_ok-given.ensures.free c.in_ok-given.ensures.more

pub returns : goal.returns
returns c =
    all_read c.args.command (map string_bytes c.args.words.now) (map string_bytes c.settings.rest.now) c.settings.given
    c.order_with.result c.settings.invariant (no_words string_bytes c.settings.rest.now c.in_default.ensures.cases) c.order_with.ensures
