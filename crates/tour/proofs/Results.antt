-- Results hang on the cells at which equations stand.
use Rattle.std.proofs.Common.{◌≡◌, ℕ, zero, suc, cond, List, [], ◌∷◌, map, get_or, sym, refl, ap, ◌∙◌, subst, ap₂, inl, inr}
use Rattle.grammar.specs.Model.{Grammar, Equation}
use Rattle.grammar.specs.declared.terms.Argument.{Argument}
use Rattle.grammar.specs.declared.terms.Argument.TheVariants.{Datum, Of}
use Rattle.grammar.specs.declared.terms.Flow.{Flow}
use Rattle.grammar.specs.declared.terms.Flow.TheVariants.{Inherited, Synthesized}
use Rattle.std.proofs.lemmas.Bool.{ne_eqb}
use Rattle.tour.specs.Runs.{In, read}
use Rattle.tour.specs.Rules.{no_attribute, symbol, rule, Takes}
use Rattle.tour.specs.Trees.{Instance, at_of}
use Rattle.tour.specs.Nodes.{Link, Cell, Table, flow_of}
use Rattle.tour.specs.Nodes.Link.{top, under}
use Rattle.tour.specs.Exchange.{swap, Exchanged}
use Rattle.tour.specs.Results.{Meaning, equation, source, worth, applied, own_equation, own_result, defining, link_sources, link_apply, result, Touches}
use Rattle.tour.proofs.Tables.{Found, found_in}

-- what the equation at an occurrence gives
abbrev pub link_result : {V : Type 0} → Meaning V → Grammar → Table → Link → ℕ → (Instance → V) → V
link_result M σ T l a v = link_apply M σ T l a (map (read v) (link_sources M σ T l a))

-- a result by what the arguments are worth
pub own_worth : {V : Type 0} (M : Meaning V) (σ : Grammar) (T : Table) (p o a : ℕ) (v : Instance → V) → own_result M σ T p o a v ≡ applied M (own_equation σ T p o a).function (map (worth M (at_of p (T p).kids) (T p).code v) (own_equation σ T p o a).arguments)
own_worth {V} M σ T p o a v = ap (applied M (own_equation σ T p o a).function) (go (own_equation σ T p o a).arguments)
  where
    go : (bs : List Argument) → map (read v) (map (source M (at_of p (T p).kids) (T p).code) bs) ≡ map (worth M (at_of p (T p).kids) (T p).code v) bs
    go [] = refl
    go (b ∷ bs) = ap (λ z. worth M (at_of p (T p).kids) (T p).code v b ∷ z) (go bs)

-- a child's place after a drop, where it is not q's
get_d_swap : (q h k : ℕ) (ps : List ℕ) → (get_or ps k 0 ≡ q → ⊥) → get_or (map (swap q h) ps) k 0 ≡ get_or ps k 0
get_d_swap q h k [] n = refl
get_d_swap q h zero (p ∷ ps) n = ap (λ b. cond b h p) (ne_eqb p q n)
get_d_swap q h (suc k) (p ∷ ps) n = get_d_swap q h k ps n

sources_moved : {V : Type 0} (M : Meaning V) (f g : ℕ → ℕ) (code : ℕ) (bs : List Argument) → ((p b : ℕ) → In (Of p b) bs → f p ≡ g p) → map (source M f code) bs ≡ map (source M g code) bs
sources_moved M f g code [] e = refl
sources_moved M f g code (Datum ∷ bs) e = ap (λ z. source M f code Datum ∷ z) (sources_moved M f g code bs (λ p b m. e p b (inr m)))
sources_moved M f g code (Of p b ∷ bs) e = ap₂ ◌∷◌ (ap (λ y. source M (λ _. y) code (Of p b)) (e p b (inl refl))) (sources_moved M f g code bs (λ p b m. e p b (inr m)))

module _ {V : Type 0} (M : Meaning V) (σ : Grammar) (q h : ℕ) (T U : Table) (ex : Exchanged q h T U) where
  at_kept : (p o a : ℕ) → (Touches σ T q p o a → ⊥) → (i b : ℕ) → Takes (rule σ (T p).rule) o a i b → at_of p (U p).kids i ≡ at_of p (T p).kids i
  at_kept p o a n zero b t = refl
  at_kept p o a n (suc k) b t = ap (λ z. get_or z k 0) (ex.kids p) ∙ get_d_swap q h k (T p).kids (λ e. n (k, b, t, e))

  own_kept : (p o a : ℕ) (v : Instance → V) → (Touches σ T q p o a → ⊥) → own_result M σ U p o a v ≡ own_result M σ T p o a v
  own_kept p o a v n =
      ap₂ (λ z c. applied M (equation o a (rule σ z).equations).function (map (read v) (map (source M (at_of p (U p).kids) c) (equation o a (rule σ z).equations).arguments))) (ex.rules p) (ex.codes p)
      ∙ go (found_in o a (rule σ (T p).rule).equations)
    where
      e : Equation
      e = equation o a (rule σ (T p).rule).equations

      go : Found o a (rule σ (T p).rule).equations e → applied M e.function (map (read v) (map (source M (at_of p (U p).kids) (T p).code) e.arguments)) ≡ applied M e.function (map (read v) (map (source M (at_of p (T p).kids) (T p).code) e.arguments))
      go (inl w) = subst (λ (z : Equation). applied M z.function (map (read v) (map (source M (at_of p (U p).kids) (T p).code) z.arguments)) ≡ applied M z.function (map (read v) (map (source M (at_of p (T p).kids) (T p).code) z.arguments))) (sym w) refl
      go (inr (m, eo, ea)) = ap (λ z. applied M e.function (map (read v) z)) (sources_moved M (at_of p (U p).kids) (at_of p (T p).kids) (T p).code e.arguments (λ i b g. at_kept p o a n i b (e, m, eo, ea, g)))

  -- the equation at an occurrence takes nothing from q's
  abbrev pub Spared : Link → ℕ → Type 0
  Spared top a = Unit {0}
  Spared (under u k) a = Touches σ T q u k a → ⊥

  link_kept : (l : Link) (a : ℕ) (v : Instance → V) → Spared l a → link_result M σ U l a v ≡ link_result M σ T l a v
  link_kept top a v n = refl
  link_kept (under u k) a v n = own_kept u k a v n

  -- what a drop does not wake
  abbrev pub Asleep : Flow → ℕ → ℕ → Type 0
  Asleep Synthesized p a = Touches σ T q p 0 a → ⊥
  Asleep Inherited p a = (p ≡ q → ⊥) × (p ≡ h → ⊥) × Spared (T p).link a

  flow_kept : (k : Flow) (p a : ℕ) (v : Instance → V) → Asleep k p a → link_result M σ U (defining k p (U p).link) a v ≡ link_result M σ T (defining k p (T p).link) a v
  flow_kept Synthesized p a v n = own_kept p 0 a v n
  flow_kept Inherited p a v (nq, nh, n) = ap (λ z. link_result M σ U z a v) (ex.links p nq nh) ∙ link_kept (T p).link a v n

  -- it has the result that it had
  pub result_kept : (x : Instance) (v : Instance → V) → Asleep (flow_of σ T x) x.0 x.1 → result M σ U x v ≡ result M σ T x v
  result_kept x v n =
      ap (λ z. link_result M σ U (defining (get_or (symbol σ (rule σ z).left).attributes x.1 no_attribute).flow x.0 (U x.0).link) x.1 v) (ex.rules x.0)
      ∙ flow_kept (flow_of σ T x) x.0 x.1 v n

-- a result hangs on the cell and the parent's cell
pub result_cells : {V : Type 0} (M : Meaning V) (σ : Grammar) (T U : Table) (x : Instance) (v : Instance → V) → U x.0 ≡ T x.0 → ((u k : ℕ) → (T x.0).link ≡ under u k → U u ≡ T u) → result M σ U x v ≡ result M σ T x v
result_cells M σ T U x v e f =
    ap (λ (c : Cell). link_result M σ U (defining (get_or (symbol σ (rule σ c.rule).left).attributes x.1 no_attribute).flow x.0 c.link) x.1 v) e
    ∙ go (flow_of σ T x)
  where
    mine : (p o a : ℕ) → U p ≡ T p → own_result M σ U p o a v ≡ own_result M σ T p o a v
    mine p o a w = ap (λ (c : Cell). own_result M σ (λ z. c) p o a v) w

    linked : (l : Link) → (T x.0).link ≡ l → link_result M σ U l x.1 v ≡ link_result M σ T l x.1 v
    linked top w = refl
    linked (under u k) w = mine u k x.1 (f u k w)

    go : (k : Flow) → link_result M σ U (defining k x.0 (T x.0).link) x.1 v ≡ link_result M σ T (defining k x.0 (T x.0).link) x.1 v
    go Synthesized = mine x.0 0 x.1 e
    go Inherited = linked (T x.0).link refl
