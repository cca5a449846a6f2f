mod TemplateLemmas
mod RegsubLemmas
mod ReplacingLemmas
mod FieldsLemmas
mod EncodeLemmas
