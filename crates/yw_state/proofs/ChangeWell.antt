-- A change of what stands at one identity that keeps the net, the item and the run there: what is well stays well.
use Rattle.std.specs.Prelude.{◌≡◌, ◌⊎◌, ℕ, Bool, true, Option, Some, None, is_some, option_map, option_and_then, refl}
use Rattle.std.specs.Ordering.{eq_by_cmp}
use Rattle.std.proofs.Common.{sym, ◌∙◌, ap, subst, inl, inr}
use Rattle.yw_state.proofs.Alike.{KnowsMore, LearnsRight, MayBeDue, StandsAlike, due_test, later_is_well, may_be_due}
use Rattle.yw_state.proofs.EntryCounts.{length-update}
use Rattle.yw_state.proofs.MapLemmas.{by_name, by_option, by_test, get-update_other, get-update_same, never, tied, tied_self, update_stands}
use Rattle.yw_state.specs.After.{change}
use Rattle.yw_state.specs.Identity.{Ident}
use Rattle.yw_state.specs.Map.{get, lexical, update}
use Rattle.yw_state.specs.Options.{is_some_and}
use Rattle.yw_state.specs.State.{State, Site, Sites, is_target, item_of_task}
use Rattle.yw_state.specs.Texts.{Reader}
use Rattle.yw_state.specs.Well.{IsWell, MarksStand, Stands}
use Rattle.yw_state.specs.Words.{has_check}
use Rattle.yw_state.specs.declared.tree.TreeKind.{TreeKind}

-- Net, item and run stay.
pub record KeepsParts (f : Site → Site) : Type 0 where
  pub net : (x : Site) → (f x).net ≡ x.net
  pub item : (x : Site) → (f x).item ≡ x.item
  pub run : (x : Site) → (f x).run ≡ x.run

module _ (m : Sites) (j : Ident) (f : Site → Site) where
  -- what stands at an identity is changed, or as before
  pub changed_or_same : (k : Ident) → (k ≡ j) × (get (update m j f) k ≡ option_map f (get m k)) ⊎ (get (update m j f) k ≡ get m k)
  changed_or_same k =
      by_test (eq_by_cmp lexical k j)
      (λ e.
      let same = tied by_name k j e in
      inl (same, ap (get (update m j f)) same ∙ get-update_same by_name m j f ∙ ap (option_map f) (ap (get m) (sym same))))
      (λ e. inr (get-update_other by_name m j f k (λ same. never (sym e ∙ ap (λ q. eq_by_cmp lexical q j) same ∙ tied_self by_name j))))

  mapped_kept : {A : Type 0} (read : Site → Option A) → ((x : Site) → read (f x) ≡ read x) → (o : Option Site) → option_and_then read (option_map f o) ≡ option_and_then read o
  mapped_kept read kept None = refl
  mapped_kept read kept (Some x) = kept x

  pub read_kept : {A : Type 0} (read : Site → Option A) → ((x : Site) → read (f x) ≡ read x) → (k : Ident) → option_and_then read (get (update m j f) k) ≡ option_and_then read (get m k)
  read_kept read kept k = in_both (changed_or_same k)
    where
      in_both : (k ≡ j) × (get (update m j f) k ≡ option_map f (get m k)) ⊎ (get (update m j f) k ≡ get m k) → option_and_then read (get (update m j f) k) ≡ option_and_then read (get m k)
      in_both (inl here) = ap (option_and_then read) here.1 ∙ mapped_kept read kept (get m k)
      in_both (inr there) = ap (option_and_then read) there

module _ (s : State) (j : Ident) (f : Site → Site) where
  abbrev sites : Sites
  sites = update s.sites j f

  abbrev t : State
  t = change s j f

  -- what passes a test did so before, or is what is changed
  pub passed_before : (test : Site → Bool) (P : Ident → Type 0) → ((x : Site) → Stands s j x → test (f x) ≡ true → P j) → ((k : Ident) → is_some_and (get s.sites k) test ≡ true → P k) → (k : Ident) → is_some_and (get sites k) test ≡ true → P k
  passed_before test P here elsewhere k e = in_both (changed_or_same s.sites j f k)
    where
      at_changed : k ≡ j → is_some_and (option_map f (get s.sites k)) test ≡ true → P k
      at_changed same passes =
          by_option (get s.sites k)
          (λ none. never (ap (λ o. is_some_and (option_map f o) test) (sym none) ∙ passes))
          (λ x some. subst P (sym same) (here x (ap (get s.sites) (sym same) ∙ some) (ap (λ o. is_some_and (option_map f o) test) (sym some) ∙ passes)))

      in_both : (k ≡ j) × (get sites k ≡ option_map f (get s.sites k)) ⊎ (get sites k ≡ get s.sites k) → P k
      in_both (inl same) = at_changed same.0 (ap (λ o. is_some_and o test) (sym same.1) ∙ e)
      in_both (inr there) = elsewhere k (ap (λ o. is_some_and o test) (sym there) ∙ e)

  -- Where the parts stay, what is suspended then, and what is due then, may be so.
  pub record MayChange : Type 0 where
    pub keeps : KeepsParts f
    pub suspended : (x : Site) → Stands s j x → (f x).suspended ≡ true → is_target s j ≡ true
    pub due : (x : Site) → Stands s j x → (kind : TreeKind) → has_check (f x).due kind ≡ true → MayBeDue s j kind

  module _ (may : MayChange) (marks : MarksStand s) where
    child_alike : (i : Ident) (n : ℕ) (k : Ident) (x : Site) → is_some (item_of_task i n k (f x)) ≡ is_some (item_of_task i n k x)
    child_alike i n k x = ap (λ o. is_some (item_of_task i n k (record x { item = o }))) (may.keeps.item x)

    stands_alike : StandsAlike s t
    stands_alike =
        record {
          net = read_kept s.sites j f (λ x. x.net) may.keeps.net;
          item = read_kept s.sites j f (λ x. x.item) may.keeps.item;
          run = read_kept s.sites j f (λ x. x.run) may.keeps.run;
          stood = λ k y e. update_stands by_name s.sites j f k y e;
          items = λ i n. length-update by_name (λ e. item_of_task i n e.0 e.1) s.sites j f (child_alike i n);
          suspended = passed_before (λ x. x.suspended) (λ k. is_target s k ≡ true) may.suspended marks.suspended;
          due = λ k kind e.
              passed_before (λ x. has_check x.due kind) (λ i. MayBeDue s i kind) (λ x stands. may.due x stands kind)
              (λ i f. may_be_due s marks i kind (due_test kind (get s.sites i) ∙ f)) k (sym (due_test kind (get sites k)) ∙ e);
        }

    knows : KnowsMore s t
    knows = record { specs = λ name l e. e; rules = λ place e. e }

    learns : (reader : Reader) → LearnsRight reader s t
    learns reader = record { spec_text = λ name l e. inl e; spec_name = λ name l e. inl e; person = λ name roles e. inl e; rules = λ key rs e. inl e }

  pub change_is_well : (reader : Reader) → MayChange → IsWell reader s → IsWell reader t
  change_is_well reader may well =
      later_is_well s s.specs s.persons s.rules sites reader (knows may well.marks) (stands_alike may well.marks) (learns may well.marks reader) well
