-- A whole exchange, links and marks, keeps the places sound.
use Rattle.std.proofs.Common.{◌≡◌, ℕ, zero, suc, ◌+◌, ◌<◌, ◌≤◌, true, false, eqb, ◌⊎◌, List, [], ◌∷◌, length, is_some, Some, None, Option, sym, refl, ap, ◌∙◌, subst, inl, inr, arith, eqb-true}
use Rattle.std.proofs.lemmas.Bool.{and_parts, or_cases}
use Rattle.std.specs.List.{slice_get}
use Rattle.grammar.specs.Model.{Grammar}
use Rattle.grammar.specs.Scopes.{flows}
use Rattle.grammar.specs.declared.terms.Attribute.{Attribute}
use Rattle.grammar.specs.declared.terms.Flow.{Flow}
use Rattle.grammar.specs.declared.terms.Flow.TheVariants.{Inherited}
use Rattle.sheet.specs.Meaning.{Sound}
use Rattle.tour.specs.Trees.{Instance}
use Rattle.tour.specs.Nodes.{Table}
use Rattle.tour.specs.Nodes.{attributes_of}
use Rattle.places.specs.Places.{used, parent_at, attributes, table}
use Rattle.places.specs.Shape.{top_from, depth_from, SoundPlaces}
use Rattle.places.specs.declared.node.Node.{Node}
use Rattle.places.specs.declared.node.Parent.{Parent}
use Rattle.exchange.specs.Exchanging.{hung_below, inherited_at, woken_below, ExchangedPlaces, Exchangeable, ExchangeLaw}
use Rattle.exchange.specs.Heights.{Height}
use Rattle.exchange.specs.Takers.{takers_at}
use Rattle.exchange.specs.Waking.{Woke}
use Rattle.exchange.specs.declared.taken.Taken.TheVariants.{Occurrence}
use Rattle.exchange.proofs.Awake.{exchanged_table, woken_owed}
use Rattle.exchange.proofs.Existing.{taker_there, none_beyond}
use Rattle.exchange.proofs.Hanging.{hung_used}
use Rattle.exchange.proofs.Keeping.{woke_sound}
use Rattle.exchange.proofs.Marking.{remarked_used, remarked_parent}
use Rattle.exchange.proofs.Planting.{hung_sound, hung_used_is, other}
use Rattle.exchange.proofs.Soundness.{hangs}
use Rattle.exchange.proofs.Swapping.{hung_other, hung_target, hung_held}

flows_within : (f : Flow) (xs : List Attribute) (a : ℕ) → flows f (slice_get xs a) ≡ true → a < length xs
flows_within f [] a h = let z : ◌≡◌ {A = ℕ} 0 1 = cc in absurd (omega arith)
flows_within f (x ∷ xs) zero h = omega arith
flows_within f (x ∷ xs) (suc a) h = let k = flows_within f xs a h in omega arith

inherited_there : (g : Grammar) (T : Table) (p : ℕ) (x : Instance) → inherited_at g T p x ≡ true → x.1 < attributes g (T x.0).rule
inherited_there g T p x h =
    let w = and_parts (eqb x.0 p) (flows Inherited (slice_get (attributes_of g T p) x.1)) h in
    subst (λ q. x.1 < length (attributes_of g T q)) (sym (eqb-true x.0 p w.0)) (flows_within Inherited (attributes_of g T p) x.1 w.1)

pub exchanged_sound : (g : Grammar) → Sound g → (ps qs : List (Option Node)) → SoundPlaces g ps → (target held : ℕ) (u : Parent) → Exchangeable g ps target held u → ExchangedPlaces g ps qs target held → SoundPlaces g qs
exchanged_sound g sound ps qs s target held u x w =
    let H = hung_below ps target held (Some u) in
    let T = table g H in
    let hs = hung_sound g sound ps s target held u x in
    let above = hangs g ps s target u x.hanging in
    let woke : Woke H qs (woken_below g T held (Some u)) = subst (λ z. Woke (hung_below ps target held z) qs (woken_below g (table g (hung_below ps target held z)) held z)) x.hanging w in
    let parent_used = hung_used ps target held (Some u) u.place (ap is_some above.there) in
    let there : (y : Instance) → woken_below g T held (Some u) y ≡ true → y.1 < attributes g (T y.0).rule =
    λ y h. by y (taker_there g sound H hs u.place (Occurrence u.position) y parent_used) (or_cases (inherited_at g T held y) (takers_at g T u.place (Occurrence u.position) y) h)
    in
    woke_sound g H qs (woken_below g T held (Some u)) hs woke (λ p a _ l. none_beyond g sound H hs (woken_below g T held (Some u)) there p a l)
  where
    by : (y : Instance) → (takers_at g (table g (hung_below ps target held (Some u))) u.place (Occurrence u.position) y ≡ true → y.1 < attributes g (table g (hung_below ps target held (Some u)) y.0).rule) → (inherited_at g (table g (hung_below ps target held (Some u))) held y ≡ true) ⊎ (takers_at g (table g (hung_below ps target held (Some u))) u.place (Occurrence u.position) y ≡ true) → y.1 < attributes g (table g (hung_below ps target held (Some u)) y.0).rule
    by y taker (inl h) = inherited_there g (table g (hung_below ps target held (Some u))) held y h
    by y taker (inr h) = taker h

-- where the target has no parent, nothing changes
pub root_sound : (g : Grammar) (ps qs : List (Option Node)) → SoundPlaces g ps → (target held : ℕ) → parent_at ps target ≡ None → ExchangedPlaces g ps qs target held → SoundPlaces g qs
root_sound g ps qs s target held e w =
    woke_sound g ps qs (λ x. false) s (subst (λ z. Woke (hung_below ps target held z) qs (woken_below g (table g (hung_below ps target held z)) held z)) e w) (λ p a h l. refl)

-- by the height of the block
pub deep_from_height : (ps : List (Option Node)) (held d h : ℕ) → Height ps held h → d + h ≤ 64 → (q : ℕ) → used ps q ≡ true → top_from ps 64 q ≡ held → d + depth_from ps 64 q ≤ 64
deep_from_height ps held d h height l q u t = let k = height.most q u t in omega arith

pub exchange_law : ExchangeLaw
exchange_law g sound ps qs target held u s x w = record {
  still_sound = exchanged_sound g sound ps qs s target held u x w;
  same_places = λ p. remarked_used (hung_below ps target held (Some u)) qs p woke ∙ hung_used_is g sound ps s target held u x p;
  held_hangs = stays held ∙ hung_held g ps target held u x.held_used ∙ sym x.hanging;
  target_free = stays target ∙ hung_target g ps target held u (other g sound ps s target held u x);
  others_hang = λ p t h. stays p ∙ hung_other g ps target held u p t h;
  as_in_tours = exchanged_table g sound ps qs s target held u x.hanging x.standing_free x.held_used w;
  woken = woken_owed g sound ps qs s target held u x.hanging x.standing_free x.held_used w;
}
  where
    woke : Woke (hung_below ps target held (Some u)) qs (woken_below g (table g (hung_below ps target held (Some u))) held (Some u))
    woke = subst (λ z. Woke (hung_below ps target held z) qs (woken_below g (table g (hung_below ps target held z)) held z)) x.hanging w

    stays : (p : ℕ) → parent_at qs p ≡ parent_at (hung_below ps target held (Some u)) p
    stays p = remarked_parent (hung_below ps target held (Some u)) qs (subst (λ z. Woke (hung_below ps target held z) qs (woken_below g (table g (hung_below ps target held z)) held z)) x.hanging w) p
