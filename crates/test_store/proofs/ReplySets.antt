-- Two proofs that replies are equal are the same proof.
use Rattle.std.specs.Prelude.{◌≡◌, ℕ, List, refl}
use Rattle.std.specs.Coded.{Coded, code_by, coded_ℕ, coded_list, coded×}
use base.Stored.{Coded-set}
use Rattle.bson_raw.specs.{TreeValue}
use Rattle.bson_doc.specs.Codes.{coded_pairs, coded_value, coded_values}
use Rattle.test_store.specs.Commands.{Reply}
use Rattle.test_store.specs.Held.{CollectionView, CursorView, NamespaceView, StoreView}
use Rattle.test_store.specs.Indexes.{IndexView}

coded_namespace : Coded NamespaceView
coded_namespace = code_by (List ℕ × List ℕ) (coded× (coded_list coded_ℕ) (coded_list coded_ℕ)) (λ n. (n.database, n.collection)) (λ p. record { database = p.0; collection = p.1 }) (λ _. refl)

coded_index : Coded IndexView
coded_index = code_by (List ℕ × TreeValue) (coded× (coded_list coded_ℕ) coded_value) (λ i. (i.name, i.key)) (λ p. record { name = p.0; key = p.1 }) (λ _. refl)

coded_collection : Coded CollectionView
coded_collection = code_by (NamespaceView × (List IndexView × List TreeValue)) (coded× coded_namespace (coded× (coded_list coded_index) coded_values)) (λ c. (c.namespace, (c.indexes, c.documents))) (λ p. record { namespace = p.0; indexes = p.1.0; documents = p.1.1 }) (λ _. refl)

coded_cursor : Coded CursorView
coded_cursor = code_by (NamespaceView × List TreeValue) (coded× coded_namespace coded_values) (λ c. (c.namespace, c.left)) (λ p. record { namespace = p.0; left = p.1 }) (λ _. refl)

coded_store : Coded StoreView
coded_store = code_by (List CollectionView × List CursorView) (coded× (coded_list coded_collection) (coded_list coded_cursor)) (λ s. (s.collections, s.cursors)) (λ p. record { collections = p.0; cursors = p.1 }) (λ _. refl)

coded_reply : Coded Reply
coded_reply = code_by (List (List ℕ × TreeValue) × StoreView) (coded× coded_pairs coded_store) (λ r. (r.answer, r.held)) (λ p. record { answer = p.0; held = p.1 }) (λ _. refl)

pub reply_set : (a b : Reply) → IsProp (a ≡ b)
reply_set a b = Coded-set coded_reply a b
