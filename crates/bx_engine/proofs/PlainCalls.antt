-- Calls without a store of graphs.
use Rattle.std.proofs.Common.{◌≡◌, ◌⊎◌, ◌∙◌, ℕ, false, List, Option, None, inl, inr, ap, sym}
use Rattle.bx_io.specs.Holdings.{Holdings, held_in}
use Rattle.bx_engine_words.specs.Words.{IsBuild, asks_graphs}
use Rattle.bx_engine_words.specs.declared.order.Order.{Order}
use Rattle.bx_engine.specs.Beyond.{Beyond, GoesBeyond, OfEachBuild, OfEachCall, OfEachCare, OfInput, Unbegun}
use Rattle.bx_engine.specs.Calls.{Call, Given, StoreChange, Written, call_of, graph_call_of}
use Rattle.bx_engine.specs.Counting.{AppendsNotes, NotesOf}
use Rattle.bx_engine.specs.Ending.{Built, Ending, InputRefused, SpecificationRefused}
use Rattle.bx_engine.specs.Headline.{Headline, KeepsHeadline}
use Rattle.bx_engine.specs.Stores.{FairStore}
use Rattle.bx_engine.specs.Workloads.{OfGen}
use Rattle.bx_engine.specs.declared.status.Status.{Status}
use Rattle.bx_engine.proofs.GraphsOfCalls.{fair_unused, tells_plain}

-- the call as it is seen without a store of graphs
abbrev plain_call : Call → Call
plain_call call = record call { graphs = None }

-- a store that is fair without a store of graphs is fair with one that is not used
fair_with : (order : Order) (input : List ℕ) (before now : Option Holdings) (graphs : Option StoreChange) → asks_graphs order ≡ false
    → FairStore order input before now None → FairStore order input before now graphs
fair_with order input before now graphs plain fair = record { store = fair.store; graph_store = fair_unused order input graphs plain }

headline_without : (order : Order) (input : List ℕ) (call : Call) (plain : asks_graphs order ≡ false)
    → ((fair : FairStore order input (held_in call.store.before) (held_in call.store.now) call.graphs) → Headline call input order fair)
    → (fair : FairStore order input (held_in call.store.before) (held_in call.store.now) None) → Headline (plain_call call) input order fair
headline_without order input call plain h fair =
    let all = h (fair_with order input (held_in call.store.before) (held_in call.store.now) call.graphs plain fair) in
    record {
      read = all.read;
      same = all.same;
      memory = all.memory;
      source = all.source;
      sink = all.sink;
      status = all.status;
      honest = all.honest;
      honest_graphs = tt;
    }

pub plain_headline : (order : Order) (status : Status) (source : Given) (out notes : Written) (store graphs : StoreChange)
    → asks_graphs order ≡ false → KeepsHeadline (λ o. (order ≡ o) × IsBuild o) (graph_call_of status source out notes store graphs)
    → KeepsHeadline (λ o. (order ≡ o) × IsBuild o) (call_of status source out notes store)
plain_headline order status source out notes store graphs plain h = λ o input is given fair.
    let call : Call = graph_call_of status source out notes store graphs in
    headline_without o input call (ap asks_graphs (sym is.0) ∙ plain) (λ f. h o input is given f) fair

notes_without : (order : Order) (input : List ℕ) (store : StoreChange) (graphs : Option StoreChange) (ending : Ending) (text : List ℕ)
    → asks_graphs order ≡ false → NotesOf order input store graphs ending text → NotesOf order input store None ending text
notes_without order input store graphs (InputRefused fault) text plain h = h
notes_without order input store graphs (SpecificationRefused refusal) text plain h = h
notes_without order input store graphs (Built pips results) text plain h =
    (h.0, h.1, h.2, h.3, tells_plain order input graphs None pips h.2.graph plain h.4, h.5)

noted_without : (order : Order) (input : List ℕ) (call : Call) → asks_graphs order ≡ false → AppendsNotes call input order
    → AppendsNotes (plain_call call) input order
noted_without order input call plain h = record {
  text = h.text;
  noted = record {
    ending = h.noted.ending;
    ends = h.noted.ends;
    status_is = h.noted.status_is;
    text_is = notes_without order input call.store call.graphs h.noted.ending h.text plain h.noted.text_is;
  };
  appended = h.appended;
}

beyond_without : (order : Order) (input : List ℕ) (call : Call) (plain : asks_graphs order ≡ false)
    → ((fair : FairStore order input (held_in call.store.before) (held_in call.store.now) call.graphs) → Beyond call input order fair)
    → (fair : FairStore order input (held_in call.store.before) (held_in call.store.now) None) → Beyond (plain_call call) input order fair
beyond_without order input call plain h fair =
    let all = h (fair_with order input (held_in call.store.before) (held_in call.store.now) call.graphs plain fair) in
    record {
      notes = λ whole. noted_without order input call plain (all.notes whole);
      left = all.left;
    }

input_without : (order : Order) (input : List ℕ) (call : Call) → asks_graphs order ≡ false → OfInput call input order
    → OfInput (plain_call call) input order
input_without order input call plain h = record {
  refused_input = h.refused_input;
  refused = λ r. elim (h.refused r) [
    | inl answers ↦ inl answers
    | inr rule ↦ inr (rule.0, λ fair. rule.1 (fair_unused order input call.graphs plain))
  ];
  kept_graphs = tt;
  graphs_left = λ fair. tt;
  shown = λ gone.
      let s = h.shown gone in
      record {
        gone = s.gone;
        asked = λ fair. s.asked (λ hit. fair_unused order input call.graphs plain);
        rules = s.rules;
        line = tells_plain order input call.graphs None s.gone.pips s.gone.counts.graph plain s.line;
        status_is = s.status_is;
        written = s.written;
        noted = s.noted;
      };
}

build_without : (call : Call) → OfEachBuild call → OfEachBuild (plain_call call)
build_without call h = record {
  status = h.status;
  read = h.read;
  rest = h.rest;
  tree = h.tree;
  tree_begun = h.tree_begun;
  puts = h.puts;
  graph_puts = tt;
}

care_without : (call : Call) → OfEachCare call → OfEachCare (plain_call call)
care_without call h = record { unasked = h.unasked; unwritten = h.unwritten; no_graphs = tt }

unbegun_without : (call : Call) → Unbegun call → Unbegun (plain_call call)
unbegun_without call h = record { unasked = h.unasked; unwritten = h.unwritten; unkept = h.unkept; no_graphs = tt; usage = h.usage }

gen_without : (seed pips : ℕ) (call : Call) → OfGen seed pips call → OfGen seed pips (plain_call call)
gen_without seed pips call h = record { writes = h.writes; unasked = h.unasked; untold = h.untold; unkept = h.unkept; no_graphs = tt }

call_without : (call : Call) → OfEachCall call → OfEachCall (plain_call call)
call_without call h = record {
  status = h.status;
  gives = h.gives;
  silent = h.silent;
  quiet = h.quiet;
  unbegun = λ none. unbegun_without call (h.unbegun none);
  source_cause = h.source_cause;
  source_no_fault = h.source_no_fault;
  out_cause = h.out_cause;
  out_no_fault = h.out_no_fault;
  store_cause = h.store_cause;
}

beyond_all : (order : Order) (call : Call) → asks_graphs order ≡ false → GoesBeyond (λ o. order ≡ o) call
    → GoesBeyond (λ o. order ≡ o) (plain_call call)
beyond_all order call plain h = record {
  fair = λ o input is build given fair.
      beyond_without o input call (ap asks_graphs (sym is) ∙ plain) (λ f. h.fair o input is build given f) fair;
  of_input = λ o input is build given.
      input_without o input call (ap asks_graphs (sym is) ∙ plain) (h.of_input o input is build given);
  of_each_build = λ o is build. build_without call (h.of_each_build o is build);
  unused = h.unused;
  unused_graphs = λ o is off. tt;
  check = h.check;
  repair = h.repair;
  trim = h.trim;
  of_each_care = λ o is care. care_without call (h.of_each_care o is care);
  gen = λ seed pips is. gen_without seed pips call (h.gen seed pips is);
  none = h.none;
  of_each_call = call_without call h.of_each_call;
}

pub plain_beyond : (order : Order) (status : Status) (source : Given) (out notes : Written) (store graphs : StoreChange)
    → asks_graphs order ≡ false → GoesBeyond (λ o. order ≡ o) (graph_call_of status source out notes store graphs)
    → GoesBeyond (λ o. order ≡ o) (call_of status source out notes store)
plain_beyond order status source out notes store graphs plain h =
    beyond_all order (graph_call_of status source out notes store graphs) plain h
