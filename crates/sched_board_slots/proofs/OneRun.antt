-- Two runs of one process whose answers agree where both ask.
use Rattle.std.proofs.Common.{◌≡◌, ℕ, true, false, cond, List, [], ◌∷◌, map, ap, sym, ◌∙◌, subst, inl, inr}
use Rattle.std.specs.List.{list_any}
use Rattle.std.proofs.lemmas.Bool.{both_ways, cases_Bool, or_cases}
use Rattle.bx_tree.specs.Members.{Has}
use Rattle.bx_tree.proofs.Members.{one_passes}
use Rattle.observed.specs.Asks.{same_ask}
use Rattle.observed.specs.Orders.{same_ask_is, same_ask_itself}
use Rattle.observed.specs.declared.ask.Ask.{Ask}
use Rattle.observed.specs.declared.access.Answer.{Answer}
use Rattle.tool_run.specs.Description.{Description}
use Rattle.tool_run.specs.Run.{path_set, run_of}
use Rattle.tool_run.proofs.Depends.{depends}
use Rattle.run_record.specs.Answered.{answered}
use Rattle.run_record.specs.Collisions.{AreOfAnswers, IsOfAnswer, NoCollision}
use Rattle.run_record.specs.Digests.{digest_asked, digest_of_line}
use Rattle.run_record.proofs.AnswerLines.{same_digest}

-- ## Answers of two views

-- the answers of one view at these asks, and of another elsewhere
abbrev over : List Ask → (Ask → Answer) → (Ask → Answer) → Ask → Answer
over asks see other q = cond (list_any (λ x. same_ask x q) asks) (see q) (other q)

any_ask : (asks : List Ask) (q : Ask) → list_any (λ x. same_ask x q) asks ≡ true → Has asks q
any_ask [] q e = cc
any_ask (x ∷ xs) q e = elim (or_cases (same_ask x q) (list_any (λ y. same_ask y q) xs) e) [
  | inl same ↦ inl (same_ask_is x q same)
  | inr more ↦ inr (any_ask xs q more)
]

over_here : (asks : List Ask) (see other : Ask → Answer) (q : Ask) → Has asks q → see q ≡ over asks see other q
over_here asks see other q h = sym (ap (λ t. cond t (see q) (other q)) (one_passes (λ x. same_ask x q) asks q h (same_ask_itself q)))

over_alike : (asks : List Ask) (see other : Ask → Answer) (q : Ask) → (Has asks q → other q ≡ see q) → other q ≡ over asks see other q
over_alike asks see other q alike = elim (cases_Bool (list_any (λ x. same_ask x q) asks)) [
  | inl e ↦ alike (any_ask asks q e) ∙ sym (ap (λ t. cond t (see q) (other q)) e)
  | inr e ↦ sym (ap (λ t. cond t (see q) (other q)) e)
]

-- runs are one where what both ask is answered alike
pub one_run : (d : Description) (a see : Ask → Answer)
    → ((q : Ask) → Has (path_set d (run_of d a).accesses) q → Has (path_set d (run_of d see).accesses) q → a q ≡ see q)
    → run_of d a ≡ run_of d see
one_run d a see alike =
    let asks : List Ask = path_set d (run_of d see).accesses in
    let both : Ask → Answer = over asks see a in
    sym (depends d a both (λ q h. over_alike asks see a q (λ k. alike q h k)))
    ∙ depends d see both (λ q h. over_here asks see a q h)

-- ## Stored answers

later : (x : Ask) (xs : List Ask) (q : Ask) → same_ask x q ≡ false → Has (x ∷ xs) q → Has xs q
later x xs q other (inl e) = absurd (both_ways (same_ask x q) other (subst (λ y. same_ask x y ≡ true) e (same_ask_itself x)))
later x xs q other (inr h) = h

-- what is stored for an ask has a line with the digest of that of the view's answer
line_at : (see : Ask → Answer) (asks : List Ask) (given : List Answer) (q : Ask) → map digest_of_line given ≡ map (digest_asked see) asks → Has asks q
    → digest_of_line (answered asks given q) ≡ digest_of_line (see q)
line_at see [] given q e h = absurd h
line_at see (x ∷ xs) [] q e h = absurd cc
line_at see (x ∷ xs) (a ∷ more) q e h =
    let first : digest_of_line a ≡ digest_of_line (see x) = cc in
    let rest : map digest_of_line more ≡ map (digest_asked see) xs = cc in
    elim (cases_Bool (same_ask x q)) [
      | inl same ↦
          ap (λ t. digest_of_line (cond t a (answered xs more q))) same ∙ first
          ∙ ap (λ y. digest_of_line (see y)) (same_ask_is x q same)
      | inr other ↦
          ap (λ t. digest_of_line (cond t a (answered xs more q))) other ∙ line_at see xs more q rest (later x xs q other h)
    ]

-- what is stored for an ask is one of the stored answers
of_stored : (see : Ask → Answer) (asks : List Ask) (given : List Answer) (q : Ask) → map digest_of_line given ≡ map (digest_asked see) asks → Has asks q
    → (x : List ℕ) → IsOfAnswer (answered asks given q) x → AreOfAnswers given x
of_stored see [] given q e h x k = absurd h
of_stored see (y ∷ ys) [] q e h x k = absurd cc
of_stored see (y ∷ ys) (a ∷ more) q e h x k =
    let rest : map digest_of_line more ≡ map (digest_asked see) ys = cc in
    elim (cases_Bool (same_ask y q)) [
      | inl same ↦ inl (subst (λ (b : Answer). IsOfAnswer b x) (ap (λ t. cond t a (answered ys more q)) same) k)
      | inr other ↦
          inr (of_stored see ys more q rest (later y ys q other h) x
          (subst (λ (b : Answer). IsOfAnswer b x) (ap (λ t. cond t a (answered ys more q)) other) k))
    ]

of_view : (see : Ask → Answer) (asks : List Ask) (q : Ask) → Has asks q → (x : List ℕ) → IsOfAnswer (see q) x → AreOfAnswers (map see asks) x
of_view see [] q h x k = absurd h
of_view see (y ∷ ys) q (inl e) x k = inl (subst (λ z. IsOfAnswer (see z) x) (sym e) k)
of_view see (y ∷ ys) q (inr h) x k = inr (of_view see ys q h x k)

-- The run on stored answers is that on a view, where the digests of all lines agree, and what is stored and what the run on the
-- view is answered are apart.
pub run_is : (M : List ℕ → Type 0) → NoCollision M → (d : Description) (see : Ask → Answer) (asks : List Ask) (given : List Answer)
    → path_set d (run_of d (answered asks given)).accesses ≡ asks → map digest_of_line given ≡ map (digest_asked see) asks
    → ((x : List ℕ) → AreOfAnswers given x → M x)
    → ((x : List ℕ) → AreOfAnswers (map see (path_set d (run_of d see).accesses)) x → M x)
    → run_of d (answered asks given) ≡ run_of d see
run_is M apart d see asks given set lines of_given of_see =
    one_run d (answered asks given) see (λ q mine theirs.
    let h : Has asks q = subst (λ (qs : List Ask). Has qs q) set mine in
    same_digest M apart (answered asks given q) (see q)
    (λ x k. of_given x (of_stored see asks given q lines h x k))
    (λ x k. of_see x (of_view see (path_set d (run_of d see).accesses) q theirs x k))
    (line_at see asks given q lines h))
