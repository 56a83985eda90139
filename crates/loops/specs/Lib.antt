pub mod LentLinks
